-- What the gates of a replaced netlist read, and what its outputs show: gates outside the group by their new numbers,
-- and gates of the new block.
--   OperandAfter, after-operand    an operand of one of its gates
--   FromNew, new-cases             a gate that an operand of the new block has become
--   FromStand, stand-cases         a gate that stands for an operand outside the group
--   ReadAfter, read-cases          a gate that is read; shown-cases: one that is shown
-- Assumes nothing.
use Prim.Native.Nat.{ℕ, ◌-◌, ◌<◌}
use mathlib.Core.Path.{◌≡◌, refl, sym, ap, subst, ◌∙◌}
use mathlib.Core.Logic.{⊎_elim}
use mathlib.Core.Bool.{Bool, true, false, not, false≢true}
use mathlib.Core.List.{List, [], ◌∷◌, map}
use native.Mathlib.Omega.{arith}
use lib.ListN.{length, get_or, length-map}
use Rattle.prelude.specs.Lists.{member, joined}
use Rattle.prelude.proofs.Tests.{bool_cases, lt-or-le}
use Rattle.prelude.proofs.Lists.{member-cases, member-one}
use Rattle.prelude.proofs.Quantifiers.{any_at, member-from}
use Rattle.theory_encoding.proofs.ListFacts.{get_d_map}
use Rattle.theory_reach.specs.Orders.{Once}
use Rattle.theory_reach.proofs.ListFacts.{keep-ascending, ascending-once, once-get_d}
use Rattle.netlist.specs.Netlist.{Operand, input, gate, constant, Gate, Output, Block, input_count, gate_count}
use Rattle.netlist.specs.Netlist.{output_count, gate_of}
use Rattle.netlist.specs.Groups.{gate_operand, read_by, reads}
use Rattle.netlist.specs.Gather.{number_at, place_in, renumbered}
use Rattle.theory_replacement.specs.Placing.{is_complete, nodes, rewired, in_place, Cut, uses_input}
use Rattle.theory_replacement.specs.Group.{is_shown}
use Rattle.theory_replacement.specs.Replaced.{outside, new_number, behind_outside, new_operand, stand_in, replaced}
use Rattle.theory_replacement.specs.Claim.{StandsAt, FitsAt}
use Rattle.theory_replacement.proofs.Rewired.{Among, among_later, among_below}
use Rattle.theory_replacement.proofs.Numbers.{place_found, outside-apart, new_number-below, new_number-back}
use Rattle.theory_replacement.proofs.Numbers.{new_net-at, length-replaced, gate-outside, gate-new}
use Rattle.theory_replacement.proofs.Numbers.{outputs-replaced, node-replaced}
use Rattle.theory_replacement.proofs.Seen.{gate-there, input-there, NewOperand, new-operand, new-node, FreeNet}
use Rattle.theory_replacement.proofs.Seen.{free-net, free-outside, Seen, seen-operand}
use Rattle.theory_replacement.proofs.Seen.{seen-node}

-- ---- what a gate reads stands among its operands

among_one : (o : Operand) (k : ℕ) → member k (gate_operand o) ≡ true → o ≡ gate k
unfolding gate_operand
among_one (input i) k h = absurd (false≢true h)
among_one (gate j) k h = ap gate (sym (member-one k j h))
among_one (constant c) k h = absurd (false≢true h)

among-from : (os : List Operand) (k : ℕ) → member k (joined (map gate_operand os)) ≡ true → Among (gate k) os
among-from [] k h = absurd (false≢true h)
among-from (o ∷ os) k h =
    ⊎_elim (λ m. record { place = 0; there = omega arith; is = among_one o k m })
    (λ m. among_later (gate k) o os (among-from os k m))
    (member-cases k (gate_operand o) (joined (map gate_operand os)) h)

pub reads-among : (b : Block) (j k : ℕ) → reads b j k ≡ true → Among (gate k) (gate_of b j).operands
unfolding reads read_by
reads-among b j k r = among-from (gate_of b j).operands k r

pub shown-place : (b : Block) (k : ℕ) → is_shown b k ≡ true
    → (p : ℕ) × (p < output_count b) × (get_or (nodes b) p (constant false) ≡ gate k)
unfolding is_shown nodes
shown-place b k h =
    let none : Output = record { port = []; node = constant false } in
    let (p, l, m) = any_at (λ (o : Output). member k (gate_operand o.node)) b.outputs none h in
    (p, l, get_d_map (λ (o : Output). o.node) b.outputs p none (constant false) l ∙ among_one _ k m)

-- an operand of a changed gate is a changed operand
pub record Changed (change : Operand → Operand) (os : List Operand) (o : Operand) : Type 0 where
  pub from : Operand
  pub among : Among from os
  pub to : change from ≡ o

pub among-changed : (change : Operand → Operand) (g : Gate) (o : Operand) → Among o (rewired change g).operands
    → Changed change g.operands o
unfolding rewired
among-changed change g o a =
    let l : a.place < length g.operands = rw (length-map g.operands change) at a.there in
    record {
      from = get_or g.operands a.place (constant false);
      among = record { place = a.place; there = l; is = refl };
      to = sym (get_d_map change g.operands a.place (constant false) (constant false) l) ∙ a.is;
    }

pub gate-injective : (j k : ℕ) → gate j ≡ gate k → j ≡ k
gate-injective j k e = cc

not-input : (i k : ℕ) → input i ≡ gate k → ⊥
not-input i k e = let z : ◌≡◌ {A = ℕ} 0 1 = cc in omega arith

not-constant : (c : Bool) (k : ℕ) → constant c ≡ gate k → ⊥
not-constant c k e = let z : ◌≡◌ {A = ℕ} 0 1 = cc in omega arith

-- ---- new numbers

module _ (b : Block) (cut : Cut) where
  pub number-injective : (j k : ℕ) → j < gate_count b → member j cut.gates ≡ false → k < gate_count b
      → member k cut.gates ≡ false
      → new_number b cut j ≡ new_number b cut k → j ≡ k
  number-injective j k l m l' m' e =
      sym (new_number-back b cut j l m) ∙ ap (λ (n : ℕ). get_or (outside b cut) n 0) e ∙ new_number-back b cut k l' m'

  pub number-not-new : (j t : ℕ) → j < gate_count b → member j cut.gates ≡ false
      → new_number b cut j ≡ behind_outside b cut t → ⊥
  unfolding behind_outside
  number-not-new j t l m e = let h = new_number-below b cut j l m in omega arith

  outside-once : Once (outside b cut)
  unfolding outside
  outside-once = ascending-once (outside b cut) (keep-ascending (λ j. not (member j cut.gates)) (gate_count b))

  -- the gate at a number outside, by that number
  pub record Kept (n : ℕ) : Type 0 where
    pub old : ℕ
    pub there : old < gate_count b
    pub apart : member old cut.gates ≡ false
    pub number : n ≡ new_number b cut old

  pub kept_at : (n : ℕ) → n < length (outside b cut) → Kept n
  unfolding new_number number_at
  kept_at n l =
      let j : ℕ = get_or (outside b cut) n 0 in
      let m : member j (outside b cut) ≡ true = member-from j (outside b cut) n l refl in
      let (l', e) = place_found (outside b cut) j m in
      record {
        old = j;
        there = (outside-apart b cut j m).0;
        apart = (outside-apart b cut j m).1;
        number = sym (once-get_d (outside b cut) outside-once (place_in (outside b cut) j) n l' l e);
      }

-- an operand of a gate: what stands for one of a gate outside, or one of the new block
pub data OperandAfter (b : Block) (cut : Cut) (new : Block) (n : ℕ) (o : Operand) : Type 0 where
  of_outside : (j : ℕ) → j < gate_count b → member j cut.gates ≡ false → n ≡ new_number b cut j
      → (e : Operand) → Among e (gate_of b j).operands → stand_in b cut new e ≡ o → OperandAfter b cut new n o
  of_new : (t : ℕ) → t < gate_count new → n ≡ behind_outside b cut t
      → (e : Operand) → Among e (gate_of new t).operands → new_operand b cut e ≡ o → OperandAfter b cut new n o

module _ (b : Block) (cut : Cut) (new : Block) (n : ℕ) (o : Operand)
    (a : Among o (gate_of (replaced b cut new) n).operands) where
  of-outside : n < length (outside b cut) → OperandAfter b cut new n o
  of-outside l =
      let k = kept_at b cut n l in
      let j : ℕ = k.old in
      let e : gate_of (replaced b cut new) n ≡ rewired (stand_in b cut new) (gate_of b j) =
      ap (gate_of (replaced b cut new)) k.number ∙ gate-outside b cut new j k.there k.apart in
      let c = among-changed (stand_in b cut new) (gate_of b j) o (subst (λ (g : Gate). Among o g.operands) e a) in
      of_outside j k.there k.apart k.number c.from c.among c.to

  of-new : (t : ℕ) → t < gate_count new → n ≡ behind_outside b cut t → OperandAfter b cut new n o
  of-new t l is =
      let e : gate_of (replaced b cut new) n ≡ rewired (new_operand b cut) (gate_of new t) =
      ap (gate_of (replaced b cut new)) is ∙ gate-new b cut new t l in
      let c = among-changed (new_operand b cut) (gate_of new t) o (subst (λ (g : Gate). Among o g.operands) e a) in
      of_new t l is c.from c.among c.to

  pub after-operand : OperandAfter b cut new n o
  unfolding behind_outside
  after-operand =
      ⊎_elim of-outside
      (λ l. let m = among_below (replaced b cut new) n o a in let e = length-replaced b cut new in
      of-new (n - length (outside b cut)) (omega arith) (omega arith))
      (lt-or-le n (length (outside b cut)))

-- ---- what an operand has become

-- the gate that an operand of the new block has become: one of its gates, or a net of the boundary that it uses
pub data FromNew (b : Block) (cut : Cut) (new : Block) (o : Operand) (n : ℕ) : Type 0 where
  new_gate : (t : ℕ) → o ≡ gate t → t < gate_count new → n ≡ behind_outside b cut t → FromNew b cut new o n
  net : (i k : ℕ) → uses_input new i ≡ true → get_or cut.nets i (constant false) ≡ gate k → k < gate_count b
      → member k cut.gates ≡ false
      → n ≡ new_number b cut k → FromNew b cut new o n

-- the gate that stands for an operand outside the group: itself, or what the new block shows in its place
pub data FromStand (b : Block) (cut : Cut) (new : Block) (o : Operand) (n : ℕ) : Type 0 where
  itself : (k : ℕ) → o ≡ gate k → k < gate_count b → member k cut.gates ≡ false → n ≡ new_number b cut k
      → FromStand b cut new o n
  shown : (k : ℕ) → o ≡ gate k → member k cut.gates ≡ true → (e : Operand) → FromNew b cut new e n
      → FromStand b cut new o n

-- what is read: by a gate outside the group, or by a gate of the new block
pub data ReadAfter (b : Block) (cut : Cut) (new : Block) (n n' : ℕ) : Type 0 where
  by_outside : (j : ℕ) → j < gate_count b → member j cut.gates ≡ false → n ≡ new_number b cut j
      → (o : Operand) → Among o (gate_of b j).operands → FromStand b cut new o n' → ReadAfter b cut new n n'
  by_new : (t : ℕ) → t < gate_count new → n ≡ behind_outside b cut t
      → (o : Operand) → Among o (gate_of new t).operands → FromNew b cut new o n' → ReadAfter b cut new n n'

module _ (b : Block) (cut : Cut) (own new : Block) (whole : is_complete b ≡ true) (stands : StandsAt b cut own)
    (fits : FitsAt b cut new)
    (long : length cut.ports ≡ output_count new) where
  net-case : (n i : ℕ) → uses_input new i ≡ true → (p : Operand) → get_or cut.nets i (constant false) ≡ p
      → FreeNet b cut p
      → (e : Operand) → renumbered (new_number b cut) p ≡ gate n → FromNew b cut new e n
  unfolding renumbered
  net-case n i u (input k) is f e h = absurd (not-input k n h)
  net-case n i u (gate k) is f e h =
      net i k u is (gate-there b k f.there) (free-outside b cut k (f.free k refl))
      (gate-injective n (new_number b cut k) (sym h))
  net-case n i u (constant c) is f e h = absurd (not-constant c n h)

  pub new-cases : (o : Operand) → NewOperand new o → (n : ℕ) → new_operand b cut o ≡ gate n → FromNew b cut new o n
  unfolding new_operand in_place
  new-cases (input i) s n h =
      let l : i < input_count new = input-there new i s.there in
      let u : uses_input new i ≡ true = s.used i refl in
      net-case n i u (get_or cut.nets i (constant false)) refl (free-net b cut own new stands fits i l u) (input i)
      (sym (new_net-at b cut i (rw (← fits.inputs) l)) ∙ h)
  new-cases (gate t) s n h =
      new_gate t refl (gate-there new t s.there) (gate-injective n (behind_outside b cut t) (sym h))
  new-cases (constant c) s n h = absurd (not-constant c n h)

  -- what the new block shows at a port
  abbrev port_node : ℕ → Operand
  port_node k = get_or (nodes new) (place_in cut.ports k) (constant false)

  port-node : (k : ℕ) → member k cut.ports ≡ true → NewOperand new (port_node k)
  port-node k m = new-node new fits.complete (place_in cut.ports k) (rw (← long) (place_found cut.ports k m).0)

  pub stand-cases : (o : Operand) → Seen b cut o → (n : ℕ) → stand_in b cut new o ≡ gate n → FromStand b cut new o n
  unfolding stand_in
  stand-cases (input i) s n h = absurd (not-input i n h)
  stand-cases (gate k) s n h = ⊎_elim inside apart (bool_cases (member k cut.gates))
    where
      inside : member k cut.gates ≡ true → FromStand b cut new (gate k) n
      inside m = shown k refl m (port_node k) (new-cases (port_node k) (port-node k (s.port k refl m)) n (rw m at h))

      apart : member k cut.gates ≡ false → FromStand b cut new (gate k) n
      apart m = itself k refl (gate-there b k s.there) m (gate-injective n (new_number b cut k) (sym (rw m at h)))
  stand-cases (constant c) s n h = absurd (not-constant c n h)

  -- ---- what is read and shown

  pub read-cases : (n n' : ℕ) → reads (replaced b cut new) n n' ≡ true → ReadAfter b cut new n n'
  read-cases n n' r = go (after-operand b cut new n (gate n') (reads-among (replaced b cut new) n n' r))
    where
      go : OperandAfter b cut new n (gate n') → ReadAfter b cut new n n'
      go (of_outside j l m e o a to) =
          by_outside j l m e o a (stand-cases o (seen-operand b cut own whole stands j m o a) n' to)
      go (of_new t l e o a to) = by_new t l e o a (new-cases o (new-operand new fits.complete t o a) n' to)

  pub shown-cases : (n : ℕ) → is_shown (replaced b cut new) n ≡ true
      → (p : ℕ) × (p < output_count b) × FromStand b cut new (get_or (nodes b) p (constant false)) n
  shown-cases n h =
      let (p, l, e) = shown-place (replaced b cut new) n h in
      let l' : p < output_count b = rw (outputs-replaced b cut new) at l in (
        p,
        l',
        stand-cases (get_or (nodes b) p (constant false)) (seen-node b cut own whole stands p l') n
            (sym (node-replaced b cut new p l') ∙ e),
      )
