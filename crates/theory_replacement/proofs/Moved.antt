-- The other groups when one has been replaced. Each gate has a rank that no read raises, a group's gates have one rank,
-- and the nets that the new block uses have lower ones; so no net depends on its group, before and after.
--   PieceFits, Apart          a group that can be replaced, and two groups that are replaced one after the other
--   piece-fits-at             what its block needs
--   rank_after, rank-after-*   the ranks afterwards
--   after-complete            the netlist afterwards is complete
--   moved-fits, moved_apart   the other groups can be replaced there
--   moved-agree               their blocks show the same there
-- Assumes nothing.
use Prim.Native.Nat.{ℕ, ◌+◌, ◌≤◌, ◌<◌}
use mathlib.Core.Path.{◌≡◌, refl, sym, ap, ◌∙◌}
use mathlib.Core.Logic.{⊎_elim}
use mathlib.Core.Bool.{Bool, true, false, cond}
use mathlib.Core.List.{List, [], map, map-map}
use native.Mathlib.Omega.{arith}
use lib.ListN.{length, get_or, length-map}
use lib.Dec.{ltb}
use borrow.Author.Tests.{lt-ltb, le-ltb}
use Rattle.prelude.specs.Lists.{member}
use Rattle.prelude.proofs.Tests.{bool_cases, not-true-false, not-both}
use Rattle.prelude.proofs.Quantifiers.{all-at, all_from, member-from}
use Rattle.theory_encoding.proofs.ListFacts.{get_d_map, all_map}
use Rattle.theory_reach.proofs.ListFacts.{map_same}
use Rattle.netlist.specs.Values.{Value}
use Rattle.netlist.specs.Netlist.{Operand, input, gate, constant, Gate, Block, input_count, gate_count, output_count}
use Rattle.netlist.specs.Netlist.{gate_of}
use Rattle.netlist.specs.StoredBlock.{is_node, is_operand}
use Rattle.netlist.specs.Rounds.{operand_value, settled}
use Rattle.netlist.specs.Groups.{OperandPath, stay, step, reads}
use Rattle.netlist.specs.Gather.{number_at, place_in, renumbered}
use Rattle.theory_permutation.proofs.Groups.{member-map, map-member}
use Rattle.theory_replacement.specs.Placing.{is_complete, nodes, rewired, in_place, Cut, net_values, shown_under}
use Rattle.theory_replacement.specs.Placing.{uses_input}
use Rattle.theory_replacement.specs.Group.{is_shown}
use Rattle.theory_replacement.specs.Replaced.{outside, new_number, behind_outside, new_operand, stand_in, replaced}
use Rattle.theory_replacement.specs.Claim.{StandsAt, FitsAt}
use Rattle.theory_replacement.specs.Several.{Piece, moved_cut, moved_piece}
use Rattle.theory_replacement.proofs.Rewired.{Among, among_reads, length-nodes, complete-operand, complete-node}
use Rattle.theory_replacement.proofs.Rewired.{complete-from}
use Rattle.theory_replacement.proofs.Numbers.{place_found, new_number-below, new_number-back, new_net-at}
use Rattle.theory_replacement.proofs.Numbers.{length-replaced, gate-outside, outputs-replaced, node-replaced}
use Rattle.theory_replacement.proofs.Seen.{gate-there, input-there, NewOperand, new-operand, new-node, FreeNet}
use Rattle.theory_replacement.proofs.Seen.{free-net, free-outside, Seen, seen-operand}
use Rattle.theory_replacement.proofs.Seen.{seen-node, shown-node}
use Rattle.theory_replacement.proofs.Cases.{number-injective, number-not-new, FromNew, new_gate, net, FromStand}
use Rattle.theory_replacement.proofs.Cases.{itself, shown, ReadAfter, by_outside, by_new, OperandAfter, of_outside}
use Rattle.theory_replacement.proofs.Cases.{of_new, after-operand, stand-cases, read-cases, shown-cases}
use Rattle.theory_replacement.proofs.Values.{operand-kept}
use Rattle.theory_replacement.proofs.Connected.{net-there}

-- ---- groups that can be replaced

-- no read raises the rank
abbrev pub Ranks : Block → (ℕ → ℕ) → Type 0
Ranks b rank = (j k : ℕ) → reads b j k ≡ true → rank k ≤ rank j

pub record PieceFits (b : Block) (rank : ℕ → ℕ) (p : Piece) : Type 0 where
  pub stands : StandsAt b p.cut p.own
  pub complete : is_complete p.new ≡ true
  pub inputs : input_count p.new ≡ length p.cut.nets
  pub outputs : length p.cut.ports ≡ output_count p.new
  pub there : (j : ℕ) → member j p.cut.gates ≡ true → j < gate_count b
  pub inside : (j : ℕ) → member j p.cut.ports ≡ true → member j p.cut.gates ≡ true
  pub level : ℕ
  pub at_level : (j : ℕ) → member j p.cut.gates ≡ true → rank j ≡ level
  pub below_level : (i k : ℕ) → uses_input p.new i ≡ true → get_or p.cut.nets i (constant false) ≡ gate k
      → rank k < level

-- a net of one group that is a gate of the other is a port of it
abbrev pub NetsSeen : Piece → Piece → Type 0
NetsSeen p q =
    (i k : ℕ) → get_or p.cut.nets i (constant false) ≡ gate k → member k q.cut.gates ≡ true → member k
    q.cut.ports ≡ true

pub record Apart (p q : Piece) : Type 0 where
  pub disjoint : (j : ℕ) → member j p.cut.gates ≡ true → member j q.cut.gates ≡ true → ⊥
  pub nets_of_first : NetsSeen p q
  pub nets_of_second : NetsSeen q p

-- the two blocks show the same under the values that their nets have
abbrev pub Agree : Block → List Value → Piece → Type 0
Agree b x p = shown_under p.own (net_values b x p.cut.nets) ≡ shown_under p.new (net_values b x p.cut.nets)

path-rank : (b : Block) (rank : ℕ → ℕ) → Ranks b rank → {j k : ℕ} → OperandPath b j k → rank k ≤ rank j
path-rank b rank ranks stay = omega arith
path-rank b rank ranks (step {i} {j} {k} r p) = let h = ranks i j r in let h' = path-rank b rank ranks p in omega arith

pub piece-fits-at : (b : Block) (rank : ℕ → ℕ) → Ranks b rank → (p : Piece) → PieceFits b rank p
    → FitsAt b p.cut p.new
piece-fits-at b rank ranks p f =
    record {
      complete = f.complete;
      inputs = f.inputs;
      independent =
          λ i k u e j m path. let low : rank k < f.level = f.below_level i k u e in
          let same : rank j ≡ f.level = f.at_level j m in
          let up : rank j ≤ rank k = path-rank b rank ranks path in
          omega arith;
    }

-- ---- one of them replaced

module _ (b : Block) (rank : ℕ → ℕ) (whole : is_complete b ≡ true) (ranks : Ranks b rank) (p : Piece)
    (f : PieceFits b rank p) where
  abbrev cut : Cut
  cut = p.cut

  abbrev new : Block
  new = p.new

  abbrev pub after : Block
  after = replaced b p.cut p.new

  pub fits : FitsAt b p.cut p.new
  fits = piece-fits-at b rank ranks p f

  -- ---- what stands for operands is there

  after-gate : (n : ℕ) → n < length (outside b cut) + gate_count new → is_operand after (gate n) ≡ true
  unfolding is_operand is_node
  after-gate n l = lt-ltb n (gate_count after) (rw (length-replaced b cut new) l)

  after-input : (i : ℕ) → is_operand b (input i) ≡ true → is_operand after (input i) ≡ true
  unfolding is_operand is_node replaced
  after-input i h = h

  after-constant : (c : Bool) → is_operand after (constant c) ≡ true
  unfolding is_operand
  after-constant c = refl

  after_kept : (k : ℕ) → k < gate_count b → member k cut.gates ≡ false
      → is_operand after (gate (new_number b cut k)) ≡ true
  after_kept k l m = let h = new_number-below b cut k l m in after-gate (new_number b cut k) (omega arith)

  net-there-after : (o : Operand) → FreeNet b cut o → is_operand after (renumbered (new_number b cut) o) ≡ true
  unfolding renumbered
  net-there-after (input i) s = after-input i s.there
  net-there-after (gate k) s = after_kept k (gate-there b k s.there) (free-outside b cut k (s.free k refl))
  net-there-after (constant c) s = after-constant c

  new-there : (o : Operand) → NewOperand new o → is_operand after (new_operand b cut o) ≡ true
  unfolding new_operand in_place behind_outside
  new-there (input i) s =
      let l : i < input_count new = input-there new i s.there in
      rw (new_net-at b cut i (rw (← f.inputs) l))
      (net-there-after (get_or cut.nets i (constant false))
      (free-net b cut p.own new f.stands fits i l (s.used i refl)))
  new-there (gate t) s = let l = gate-there new t s.there in after-gate (length (outside b cut) + t) (omega arith)
  new-there (constant c) s = after-constant c

  -- what the new block shows at a port
  abbrev port_node : ℕ → Operand
  port_node k = get_or (nodes new) (place_in cut.ports k) (constant false)

  port-new : (k : ℕ) → member k cut.ports ≡ true → NewOperand new (port_node k)
  port-new k m =
      new-node new f.complete (place_in cut.ports k) (rw (← f.outputs) (place_found cut.ports k m).0)

  stand-there : (o : Operand) → Seen b cut o → is_operand after (stand_in b cut new o) ≡ true
  unfolding stand_in
  stand-there (input i) s = after-input i s.there
  stand-there (gate k) s =
      ⊎_elim (λ m. rw m (new-there (port_node k) (port-new k (s.port k refl m))))
      (λ m. rw m (after_kept k (gate-there b k s.there) m)) (bool_cases (member k cut.gates))
  stand-there (constant c) s = after-constant c

  -- ---- so the netlist afterwards is complete

  pub after-complete : is_complete after ≡ true
  after-complete =
      complete-from after (λ n o a. operand n o (after-operand b cut new n o a))
      (λ q l. let l' : q < output_count b = rw (outputs-replaced b cut new) at l in
      rw (node-replaced b cut new q l')
      (stand-there (get_or (nodes b) q (constant false)) (seen-node b cut p.own whole f.stands q l')))
    where
      operand : (n : ℕ) (o : Operand) → OperandAfter b cut new n o → is_operand after o ≡ true
      operand n o (of_outside j l m e o' a to) =
          rw (← to) (stand-there o' (seen-operand b cut p.own whole f.stands j m o' a))
      operand n o (of_new t l e o' a to) = rw (← to) (new-there o' (new-operand new f.complete t o' a))

  -- ---- the ranks afterwards: gates outside keep theirs, and the new block's gates have the group's

  pub rank_after : ℕ → ℕ
  rank_after n = cond (ltb n (length (outside b cut))) (rank (get_or (outside b cut) n 0)) f.level

  pub rank-after-kept : (j : ℕ) → j < gate_count b → member j cut.gates ≡ false
      → rank_after (new_number b cut j) ≡ rank j
  unfolding rank_after
  rank-after-kept j l m =
      rw (lt-ltb (new_number b cut j) (length (outside b cut)) (new_number-below b cut j l m))
      (ap rank (new_number-back b cut j l m))

  pub rank-after-new : (t : ℕ) → rank_after (behind_outside b cut t) ≡ f.level
  unfolding rank_after behind_outside
  rank-after-new t = rw (le-ltb (length (outside b cut) + t) (length (outside b cut)) (omega arith)) refl

  -- what the new block reads has at most its level,
  from-new-rank : (o : Operand) (n : ℕ) → FromNew b cut new o n → rank_after n ≤ f.level
  from-new-rank o n (new_gate t is l e) = rw (e, rank-after-new t) (omega arith)
  from-new-rank o n (net i k u is l m e) = rw (e, rank-after-kept k l m) (let h = f.below_level i k u is in omega arith)

  -- no read of the replaced netlist raises the rank
  pub ranks-after : Ranks after rank_after
  ranks-after n n' r = go (read-cases b cut p.own new whole f.stands fits f.outputs n n' r)
    where
      stand : (j : ℕ) → j < gate_count b → member j cut.gates ≡ false → (o : Operand) → Among o (gate_of b j).operands
          → FromStand b cut new o n' → rank_after n' ≤ rank j
      stand j l m o a (itself k is l' m' e) =
          rw (e, rank-after-kept k l' m') (ranks j k (among_reads b j k (rw is at a)))
      stand j l m o a (shown k is m' o' from) =
          let h = from-new-rank o' n' from in
          let h' : rank k ≤ rank j = ranks j k (among_reads b j k (rw is at a)) in
          let h'' : rank k ≡ f.level = f.at_level k m' in
          omega arith

      go : ReadAfter b cut new n n' → rank_after n' ≤ rank_after n
      go (by_outside j l m e o a from) = rw (e, rank-after-kept j l m) (stand j l m o a from)
      go (by_new t l e o a from) = rw (e, rank-after-new t) (from-new-rank o n' from)

  -- ---- another group

  module _ (q : Piece) (g : PieceFits b rank q) (apart : Apart p q) where
    -- none of its gates is in the group that is replaced
    outside-first : (j : ℕ) → member j q.cut.gates ≡ true → member j cut.gates ≡ false
    outside-first j m = not-true-false (member j cut.gates) (λ h. apart.disjoint j h m)

    pub seen-net : (i : ℕ) → i < length q.cut.nets → Seen b cut (get_or q.cut.nets i (constant false))
    seen-net i l =
        record {
          there = all-at (is_operand b) q.cut.nets i (constant false)
              g.stands.nets l;
          port = λ k e. apart.nets_of_second i k e;
        }

    abbrev place : Operand → Operand
    place o = in_place q.cut.nets (number_at q.cut.gates) o

    abbrev place_after : Operand → Operand
    place_after o = in_place (map (stand_in b cut new) q.cut.nets) (number_at (map (new_number b cut) q.cut.gates)) o

    own-long : gate_count q.own ≡ length q.cut.gates
    own-long =
        sym (length-map q.own.gates (rewired place)) ∙ ap length g.stands.gates ∙ length-map q.cut.gates
        (gate_of b)

    stand-kept : (k : ℕ) → member k cut.gates ≡ false → stand_in b cut new (gate k) ≡ gate (new_number b cut k)
    unfolding stand_in
    stand-kept k m = rw m refl

    stand-constant : (c : Bool) → stand_in b cut new (constant c) ≡ constant c
    unfolding stand_in
    stand-constant c = refl

    -- the operands of the other group's own block, in place afterwards
    place-moved : (o : Operand) → is_operand q.own o ≡ true → stand_in b cut new (place o) ≡ place_after o
    unfolding in_place number_at
    place-moved (input i) h =
        sym (get_d_map (stand_in b cut new) q.cut.nets i (constant false) (constant false)
        (rw (← g.stands.inputs) (input-there q.own i h)))
    place-moved (gate t) h =
        let l : t < length q.cut.gates = rw (← own-long) (gate-there q.own t h) in
        let m : member (get_or q.cut.gates t 0) q.cut.gates ≡ true = member-from _ q.cut.gates t l refl in
        stand-kept (get_or q.cut.gates t 0) (outside-first _ m) ∙ ap gate
        (sym (get_d_map (new_number b cut) q.cut.gates t 0 0 l))
    place-moved (constant c) h = stand-constant c

    gate-moved : (t : ℕ)
        → rewired (stand_in b cut new) (rewired place (gate_of q.own t)) ≡ rewired place_after (gate_of q.own t)
    unfolding rewired
    gate-moved t =
        let a : Gate = gate_of q.own t in
        ap {B = Gate} (λ (os : List Operand). record { kind = a.kind; operands = os })
        (map-map (stand_in b cut new) place a.operands
        ∙ map_same (λ o. stand_in b cut new (place o)) place_after a.operands (constant false)
        (λ i l. place-moved _
        (complete-operand q.own g.stands.complete t _ (record { place = i; there = l; is = refl }))))

    moved-gates : map (rewired place_after) q.own.gates ≡ map (gate_of after) (map (new_number b cut) q.cut.gates)
    moved-gates =
        sym
        (map-map (gate_of after) (new_number b cut) q.cut.gates
        ∙ map_same _ (λ j. rewired (stand_in b cut new) (gate_of b j)) q.cut.gates 0
        (λ t l. let m = member-from (get_or q.cut.gates t 0) q.cut.gates t l refl in
        gate-outside b cut new (get_or q.cut.gates t 0) (g.there _ m) (outside-first _ m))
        ∙ sym (map-map (rewired (stand_in b cut new)) (gate_of b) q.cut.gates)
        ∙ ap (map (rewired (stand_in b cut new))) (sym g.stands.gates)
        ∙ map-map (rewired (stand_in b cut new)) (rewired place) q.own.gates
        ∙ map_same _ (rewired place_after) q.own.gates (record { kind = 0; operands = [] }) (λ t l. gate-moved t))

    moved-outputs : map place_after (nodes q.own) ≡ map gate (map (new_number b cut) q.cut.ports)
    moved-outputs =
        sym
        (map-map gate (new_number b cut) q.cut.ports
        ∙ map_same _ (λ j. stand_in b cut new (gate j)) q.cut.ports 0
        (λ i l. let m = member-from (get_or q.cut.ports i 0) q.cut.ports i l refl in
        sym (stand-kept (get_or q.cut.ports i 0) (outside-first _ (g.inside _ m))))
        ∙ sym (map-map (stand_in b cut new) gate q.cut.ports)
        ∙ ap (map (stand_in b cut new)) (sym g.stands.outputs)
        ∙ map-map (stand_in b cut new) place (nodes q.own)
        ∙ map_same _ place_after (nodes q.own) (constant false)
        (λ i l. place-moved _ (complete-node q.own g.stands.complete i (rw (length-nodes q.own) at l))))

    -- ---- a gate of it that is read or shown afterwards is one of its ports

    kept_same : (n j k : ℕ) → n ≡ new_number b cut j → n ≡ new_number b cut k → j < gate_count b
        → member j cut.gates ≡ false
        → member k q.cut.gates ≡ true → j ≡ k
    kept_same n j k e e' l m m' = number-injective b cut j k l m (g.there k m') (outside-first k m') (sym e ∙ e')

    from-new-port : (o : Operand) (n k : ℕ) → FromNew b cut new o n → n ≡ new_number b cut k
        → member k q.cut.gates ≡ true
        → member k q.cut.ports ≡ true
    from-new-port o n k (new_gate t is l e) e' m =
        absurd (number-not-new b cut k t (g.there k m) (outside-first k m) (sym e' ∙ e))
    from-new-port o n k (net i j u is l m' e) e' m =
        let same : j ≡ k = kept_same n j k e e' l m' m in
        apart.nets_of_first i k (rw same at is) m

    read-port : (n n' k : ℕ) → member n (map (new_number b cut) q.cut.gates) ≡ false → reads after n n' ≡ true
        → n' ≡ new_number b cut k
        → member k q.cut.gates ≡ true → member k q.cut.ports ≡ true
    read-port n n' k out r e m = go (read-cases b cut p.own new whole f.stands fits f.outputs n n' r)
      where
        stand : (j : ℕ) → n ≡ new_number b cut j → (o : Operand) → Among o (gate_of b j).operands
            → FromStand b cut new o n'
            → member k q.cut.ports ≡ true
        stand j is o a (itself i is' l' m' e') =
            let same : i ≡ k = kept_same n' i k e' e l' m' m in
            let apart-j : member j q.cut.gates ≡ false =
            not-true-false (member j q.cut.gates)
            (λ h. not-both (rw is (map-member (new_number b cut) j q.cut.gates h)) out) in
            g.stands.is_read j k apart-j (rw same at (among_reads b j i (rw is' at a))) m
        stand j is o a (shown i is' m' o' from) = from-new-port o' n' k from e m

        go : ReadAfter b cut new n n' → member k q.cut.ports ≡ true
        go (by_outside j l' m' is o a from) = stand j is o a from
        go (by_new t l' is o a from) = from-new-port o n' k from e m

    shown-port : (n k : ℕ) → is_shown after n ≡ true → n ≡ new_number b cut k → member k q.cut.gates ≡ true
        → member k q.cut.ports ≡ true
    shown-port n k h e m =
        let (i, l, from) = shown-cases b cut p.own new whole f.stands fits f.outputs n h in go i l from
      where
        go : (i : ℕ) → i < output_count b → FromStand b cut new (get_or (nodes b) i (constant false)) n
            → member k q.cut.ports ≡ true
        go i l (itself j is l' m' e') =
            let same : j ≡ k = kept_same n j k e' e l' m' m in
            g.stands.is_shown k (rw same at (shown-node b i j l is)) m
        go i l (shown j is m' o' from) = from-new-port o' n k from e m

    abbrev number : ℕ → ℕ
    number j = new_number b cut j

    moved-stands : StandsAt after (moved_cut b cut new q.cut) q.own
    unfolding moved_cut
    moved-stands =
        record {
          complete = g.stands.complete;
          nets =
              all_map (is_operand after) (stand_in b cut new) q.cut.nets
              ∙ all_from (λ o. is_operand after (stand_in b cut new o)) q.cut.nets (constant false)
              (λ i l. stand-there _ (seen-net i l));
          inputs = g.stands.inputs ∙ sym (length-map q.cut.nets (stand_in b cut new));
          gates = moved-gates;
          outputs = moved-outputs;
          is_read =
              λ n n' out r m. let (k, m', e) = member-map number n' q.cut.gates m in
              rw e (map-member number k q.cut.ports (read-port n n' k out r e m'));
          is_shown =
              λ n h m. let (k, m', e) = member-map number n q.cut.gates m in
              rw e (map-member number k q.cut.ports (shown-port n k h e m'));
        }

    -- ---- its ranks

    low-net : (i n : ℕ) → uses_input q.new i ≡ true → i < length q.cut.nets
        → stand_in b cut new (get_or q.cut.nets i (constant false)) ≡ gate n
        → rank_after n < g.level
    low-net i n u l e = go (stand-cases b cut p.own new whole f.stands fits f.outputs _ (seen-net i l) n e)
      where
        go : FromStand b cut new (get_or q.cut.nets i (constant false)) n → rank_after n < g.level
        go (itself k is l' m' e') = rw (e', rank-after-kept k l' m') (g.below_level i k u is)
        go (shown k is m' o' from) =
            let h = from-new-rank o' n from in
            let h' : rank k ≡ f.level = f.at_level k m' in
            let h'' : rank k < g.level = g.below_level i k u is in
            omega arith

    -- the other group can be replaced afterwards
    pub moved-fits : PieceFits after rank_after (moved_piece b p q)
    unfolding moved_piece moved_cut
    moved-fits =
        record {
          stands = moved-stands;
          complete = g.complete;
          inputs = g.inputs ∙ sym (length-map q.cut.nets (stand_in b cut new));
          outputs = length-map q.cut.ports number ∙ g.outputs;
          there =
              λ n m. let (k, m', e) = member-map number n q.cut.gates m in
              let h = new_number-below b cut k (g.there k m') (outside-first k m') in
              let h' = length-replaced b cut new in
              omega arith;
          inside =
              λ n m. let (k, m', e) = member-map number n q.cut.ports m in
              rw e (map-member number k q.cut.gates (g.inside k m'));
          level = g.level;
          at_level =
              λ n m. let (k, m', e) = member-map number n q.cut.gates m in
              rw e (rank-after-kept k (g.there k m') (outside-first k m') ∙ g.at_level k m');
          below_level =
              λ i k u e. let l : i < length q.cut.nets = rw (length-map q.cut.nets (stand_in b cut new)) at
              (net-there (map (stand_in b cut new) q.cut.nets) i k e) in
              low-net i k u l
              (sym (get_d_map (stand_in b cut new) q.cut.nets i (constant false) (constant false) l) ∙ e);
        }

    -- ---- its values

    nets-kept : (x : List Value)
        → shown_under p.own (net_values b x p.cut.nets) ≡ shown_under p.new (net_values b x p.cut.nets)
        → net_values after x (map (stand_in b cut new) q.cut.nets) ≡ net_values b x q.cut.nets
    unfolding net_values
    nets-kept x agree =
        map-map (operand_value x (settled after x)) (stand_in b cut new) q.cut.nets
        ∙ map_same _ (operand_value x (settled b x)) q.cut.nets (constant false)
        (λ i l. operand-kept b cut p.own new whole f.stands fits x agree _ (seen-net i l))

    -- the other group's two blocks show the same afterwards
    pub moved-agree : (x : List Value) → Agree b x p → Agree b x q → Agree after x (moved_piece b p q)
    unfolding moved_piece moved_cut
    moved-agree x first second = rw (nets-kept x first) second

  -- ---- two other groups

  -- a net of one that is a gate of the other is a port of it, afterwards as before
  nets-seen : (q r : Piece) → PieceFits b rank q → Apart p q → PieceFits b rank r → Apart p r → NetsSeen q r
      → NetsSeen (moved_piece b p q) (moved_piece b p r)
  unfolding moved_piece moved_cut
  nets-seen q r fq aq fr ar seen i n e m =
      let l : i < length q.cut.nets = rw (length-map q.cut.nets (stand_in b cut new)) at
      (net-there (map (stand_in b cut new) q.cut.nets) i n e) in
      let (k, m', is) = member-map (new_number b cut) n r.cut.gates m in
      rw is
      (map-member (new_number b cut) k r.cut.ports
      (go k m' is
      (stand-cases b cut p.own new whole f.stands fits f.outputs _ (seen-net q fq aq i l) n
      (sym (get_d_map (stand_in b cut new) q.cut.nets i (constant false) (constant false) l) ∙ e))))
    where
      go : (k : ℕ) → member k r.cut.gates ≡ true → n ≡ new_number b cut k
          → FromStand b cut new (get_or q.cut.nets i (constant false)) n
          → member k r.cut.ports ≡ true
      go k m' is (itself j is' l m'' e') =
          let same : j ≡ k = kept_same r fr ar n j k e' is l m'' m' in
          seen i k (rw same at is') m'
      go k m' is (shown j is' m'' o from) = from-new-port r fr ar o n k from is m'

  pub moved_apart : (q r : Piece) → PieceFits b rank q → Apart p q → PieceFits b rank r → Apart p r → Apart q r
      → Apart (moved_piece b p q) (moved_piece b p r)
  unfolding moved_piece moved_cut
  moved_apart q r fq aq fr ar a =
      record {
        disjoint = disjoint;
        nets_of_first = nets-seen q r fq aq fr ar a.nets_of_first;
        nets_of_second = nets-seen r q fr ar fq aq a.nets_of_second;
      }
    where
      disjoint : (n : ℕ) → member n (moved_piece b p q).cut.gates ≡ true
          → member n (moved_piece b p r).cut.gates ≡ true → ⊥
      disjoint n m m' =
          let (j, mj, e) = member-map (new_number b cut) n q.cut.gates m in
          let (k, mk, e') = member-map (new_number b cut) n r.cut.gates m' in
          let same : j ≡ k = kept_same r fr ar n j k e e' (fq.there j mj) (outside-first q fq aq j mj) mk in
          a.disjoint k (rw same at mj) mk
