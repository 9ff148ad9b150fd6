-- Straight gates in place of a group bring no loop. From a gate that does not depend on the group every chain of reads
-- stays among such gates, as before; a chain from a gate of the new block goes to lower gates of it and then to such
-- gates, so it does not come back.
--   free-path, new-path, kept-path   where chains of reads lead in the replaced netlist
--   was-on-loop                      so each loop of it was there before
-- Assumes nothing.
use Prim.Native.Nat.{ℕ, ◌≤◌, ◌<◌}
use mathlib.Core.Path.{◌≡◌, sym, ◌∙◌}
use mathlib.Core.Bool.{true, false}
use native.Mathlib.Omega.{arith}
use lib.ListN.{length}
use Rattle.prelude.specs.Lists.{member}
use Rattle.theory_reach.proofs.Straight.{straight-reads}
use Rattle.netlist.specs.Netlist.{Operand, Block, gate_count, output_count, gate_of}
use Rattle.netlist.specs.Groups.{OperandPath, stay, step, reads}
use Rattle.netlist.specs.Rendering.{is_straight}
use Rattle.theory_replacement.specs.Placing.{is_complete, Cut, DependsOnNone}
use Rattle.theory_replacement.specs.Replaced.{new_number, behind_outside, replaced}
use Rattle.theory_replacement.specs.Claim.{StandsAt, FitsAt, OnLoop, WasOnLoop}
use Rattle.theory_replacement.proofs.Rewired.{Among, among_reads}
use Rattle.theory_replacement.proofs.Seen.{free-outside}
use Rattle.theory_replacement.proofs.Cases.{number-injective, number-not-new, FromNew, new_gate, net, FromStand}
use Rattle.theory_replacement.proofs.Cases.{itself, shown, ReadAfter, by_outside, by_new, read-cases}

-- number n is that of a gate that does not depend on the group
record InFree (b : Block) (cut : Cut) (n : ℕ) : Type 0 where
  old : ℕ
  there : old < gate_count b
  free : DependsOnNone b cut.gates old
  number : n ≡ new_number b cut old

-- a chain of reads leads from gate k to the gate of number n, which does not depend on the group
record FreeFrom (b : Block) (cut : Cut) (k n : ℕ) : Type 0 where
  end : InFree b cut n
  path : OperandPath b k end.old

-- a step of such a chain
record FreeStep (b : Block) (cut : Cut) (k n : ℕ) : Type 0 where
  end : InFree b cut n
  is_read : reads b k end.old ≡ true

-- where a chain leads that begins at a gate of the new block: to a lower gate of it, or away from it and the group
data NewEnd (b : Block) (cut : Cut) (t n : ℕ) : Type 0 where
  lower : (u : ℕ) → u ≤ t → n ≡ behind_outside b cut u → NewEnd b cut t n
  away : InFree b cut n → NewEnd b cut t n

-- where a chain leads that begins at a gate outside the group: where it led before, or into the new block, or away
data KeptEnd (b : Block) (cut : Cut) (j n : ℕ) : Type 0 where
  as_before : (k : ℕ) → k < gate_count b → member k cut.gates ≡ false → n ≡ new_number b cut k → OperandPath b j k
      → KeptEnd b cut j n
  into_new : (t : ℕ) → n ≡ behind_outside b cut t → KeptEnd b cut j n
  away : InFree b cut n → KeptEnd b cut j n

behind-injective : (b : Block) (cut : Cut) (t u : ℕ) → behind_outside b cut t ≡ behind_outside b cut u → t ≡ u
unfolding behind_outside
behind-injective b cut t u e = omega arith

module _ (b : Block) (cut : Cut) (own new : Block) (whole : is_complete b ≡ true) (stands : StandsAt b cut own)
    (fits : FitsAt b cut new)
    (long : length cut.ports ≡ output_count new) (straight : is_straight new ≡ true) where
  abbrev after : Block
  after = replaced b cut new

  -- a gate that does not depend on the group reads none of it
  free-reads : (j k : ℕ) → DependsOnNone b cut.gates j → reads b j k ≡ true → member k cut.gates ≡ true → ⊥
  free-reads j k f r m = f k m (step r stay)

  same_number : (n j k : ℕ) → n ≡ new_number b cut j → n ≡ new_number b cut k → j < gate_count b
      → member j cut.gates ≡ false
      → k < gate_count b → member k cut.gates ≡ false → j ≡ k
  same_number n j k e f l m l' m' = number-injective b cut j k l m l' m' (sym e ∙ f)

  free_step : (n n' k : ℕ) → n ≡ new_number b cut k → k < gate_count b → DependsOnNone b cut.gates k
      → reads after n n' ≡ true → FreeStep b cut k n'
  free_step n n' k e l f r = go (read-cases b cut own new whole stands fits long n n' r)
    where
      at : (j : ℕ) → j ≡ k → (o : Operand) → Among o (gate_of b j).operands → FromStand b cut new o n'
          → FreeStep b cut k n'
      at j s o a (itself i is l' m' e') =
          let r' : reads b k i ≡ true = rw s at (among_reads b j i (rw is at a)) in
          record { end = record { old = i; there = l'; free = λ g m p. f g m (step r' p); number = e' }; is_read = r' }
      at j s o a (shown i is m' o' from) = absurd (free-reads k i f (rw s at (among_reads b j i (rw is at a))) m')

      go : ReadAfter b cut new n n' → FreeStep b cut k n'
      go (by_outside j l' m' e' o a from) = at j (same_number n j k e' e l' m' l (free-outside b cut k f)) o a from
      go (by_new t l' e' o a from) = absurd (number-not-new b cut k t l (free-outside b cut k f) (sym e ∙ e'))

  free-path : {n n' : ℕ} → OperandPath after n n' → (k : ℕ) → n ≡ new_number b cut k → k < gate_count b
      → DependsOnNone b cut.gates k
      → FreeFrom b cut k n'
  free-path stay k e l f = record { end = record { old = k; there = l; free = f; number = e }; path = stay }
  free-path (step {i = n} {j = m} r p) k e l f =
      let s = free_step n m k e l f r in
      let rest = free-path p s.end.old s.end.number s.end.there s.end.free in
      record { end = rest.end; path = step s.is_read rest.path }

  new-path : {n n' : ℕ} → OperandPath after n n' → (t : ℕ) → t < gate_count new → n ≡ behind_outside b cut t
      → NewEnd b cut t n'
  new-path stay t l e = lower t (omega arith) e
  new-path (step {i = n} {j = m} {k = n'} r p) t l e =
      go (read-cases b cut own new whole stands fits long n m r) (new-path p) (free-path p)
    where
      up : (u : ℕ) → u ≤ t → NewEnd b cut u n' → NewEnd b cut t n'
      up u q (lower v q' e') = lower v (omega arith) e'
      up u q (away f) = away f

      at : (s : ℕ) → s ≡ t → (o : Operand) → Among o (gate_of new s).operands → FromNew b cut new o m
          → ((u : ℕ) → u < gate_count new → m ≡ behind_outside b cut u → NewEnd b cut u n')
          → ((k : ℕ) → m ≡ new_number b cut k → k < gate_count b → DependsOnNone b cut.gates k → FreeFrom b cut k n')
          → NewEnd b cut t n'
      at s q o a (new_gate u is l' e') again free =
          let low : u < s = straight-reads new straight s u (among_reads new s u (rw is at a)) in
          up u (omega arith) (again u l' e')
      at s q o a (net i k u is l' m' e') again free = away (free k e' l' (fits.independent i k u is)).end

      go : ReadAfter b cut new n m
          → ((u : ℕ) → u < gate_count new → m ≡ behind_outside b cut u → NewEnd b cut u n')
          → ((k : ℕ) → m ≡ new_number b cut k → k < gate_count b → DependsOnNone b cut.gates k → FreeFrom b cut k n')
          → NewEnd b cut t n'
      go (by_outside j l' m' e' o a from) again free = absurd (number-not-new b cut j t l' m' (sym e' ∙ e))
      go (by_new s l' e' o a from) again free = at s (behind-injective b cut s t (sym e' ∙ e)) o a from again free

  new-end : {t n : ℕ} (j : ℕ) → NewEnd b cut t n → KeptEnd b cut j n
  new-end j (lower u q e) = into_new u e
  new-end j (away f) = away f

  into-new : {n n' : ℕ} → OperandPath after n n' → (o : Operand) → FromNew b cut new o n → (j : ℕ) → KeptEnd b cut j n'
  into-new p o (new_gate t is l e) j = new-end j (new-path p t l e)
  into-new p o (net i k u is l m e) j = away (free-path p k e l (fits.independent i k u is)).end

  kept-path : {n n' : ℕ} → OperandPath after n n' → (j : ℕ) → n ≡ new_number b cut j → j < gate_count b
      → member j cut.gates ≡ false → KeptEnd b cut j n'
  kept-path stay j e l m = as_before j l m e stay
  kept-path (step {i = n} {j = n''} {k = n'} r p) j e l m =
      go (read-cases b cut own new whole stands fits long n n'' r) (kept-path p)
    where
      longer : (k : ℕ) → reads b j k ≡ true → KeptEnd b cut k n' → KeptEnd b cut j n'
      longer k r' (as_before i l' m' e' q) = as_before i l' m' e' (step r' q)
      longer k r' (into_new t e') = into_new t e'
      longer k r' (away f) = away f

      at : (i : ℕ) → i ≡ j → (o : Operand) → Among o (gate_of b i).operands → FromStand b cut new o n''
          → ((k : ℕ) → n'' ≡ new_number b cut k → k < gate_count b → member k cut.gates ≡ false → KeptEnd b cut k n')
          → KeptEnd b cut j n'
      at i s o a (itself k is l' m' e') rest = longer k (rw s at (among_reads b i k (rw is at a))) (rest k e' l' m')
      at i s o a (shown k is m' o' from) rest = into-new p o' from j

      go : ReadAfter b cut new n n''
          → ((k : ℕ) → n'' ≡ new_number b cut k → k < gate_count b → member k cut.gates ≡ false → KeptEnd b cut k n')
          → KeptEnd b cut j n'
      go (by_outside i l' m' e' o a from) rest = at i (same_number n i j e' e l' m' l m) o a from rest
      go (by_new t l' e' o a from) rest = absurd (number-not-new b cut j t l m (sym e ∙ e'))

  -- ---- a loop

  -- no gate of the new block is on one: a chain back to it would end at a lower gate, or away from it
  new-loop : (n t u : ℕ) → u < t → n ≡ behind_outside b cut t → NewEnd b cut u n → ⊥
  new-loop n t u low e (lower v q e') = let same : t ≡ v = behind-injective b cut t v (sym e ∙ e') in omega arith
  new-loop n t u low e (away f) =
      number-not-new b cut f.old t f.there (free-outside b cut f.old f.free) (sym f.number ∙ e)

  free-number : (n j : ℕ) → n ≡ new_number b cut j → j < gate_count b → member j cut.gates ≡ false → InFree b cut n
      → DependsOnNone b cut.gates j
  free-number n j e l m f =
      let same : f.old ≡ j =
      same_number n f.old j f.number e f.there (free-outside b cut f.old f.free) l m in
      rw same at f.free

  free-loop : (n j : ℕ) → n ≡ new_number b cut j → j < gate_count b → member j cut.gates ≡ false
      → DependsOnNone b cut.gates j → OnLoop after n → OnLoop b j
  free-loop n j e l m f loop =
      let s = free_step n loop.next j e l f loop.is_read in
      let rest = free-path loop.back s.end.old s.end.number s.end.there s.end.free in
      let same : rest.end.old ≡ j =
      same_number n rest.end.old j rest.end.number e rest.end.there
      (free-outside b cut rest.end.old rest.end.free) l m in
      record { next = s.end.old; is_read = s.is_read; back = rw same at rest.path }

  module _ (n : ℕ) (loop : OnLoop after n) where
    kept-loop : (j : ℕ) → n ≡ new_number b cut j → j < gate_count b → member j cut.gates ≡ false
        → (k : ℕ) → reads b j k ≡ true → KeptEnd b cut k n → OnLoop b j
    kept-loop j e l m k r (as_before i l' m' e' q) =
        let same : i ≡ j = same_number n i j e' e l' m' l m in
        record { next = k; is_read = r; back = rw same at q }
    kept-loop j e l m k r (into_new t e') = absurd (number-not-new b cut j t l m (sym e ∙ e'))
    kept-loop j e l m k r (away f) = free-loop n j e l m (free-number n j e l m f) loop

    -- a chain that goes through the new block does not come back
    no_way_back : (j : ℕ) → n ≡ new_number b cut j → j < gate_count b → member j cut.gates ≡ false
        → (k : ℕ) → reads b j k ≡ true → member k cut.gates ≡ true → (o : Operand)
        → FromNew b cut new o loop.next → ⊥
    no_way_back j e l m k r g o (new_gate t is l' e') = go (new-path loop.back t l' e')
      where
        go : NewEnd b cut t n → ⊥
        go (lower u q e'') = number-not-new b cut j u l m (sym e ∙ e'')
        go (away f) = free-reads j k (free-number n j e l m f) r g
    no_way_back j e l m k r g o (net i h u is l' m' e') =
        free-reads j k (free-number n j e l m (free-path loop.back h e' l' (fits.independent i h u is)).end) r g

    outside-loop : (j : ℕ) → n ≡ new_number b cut j → j < gate_count b → member j cut.gates ≡ false
        → (o : Operand) → Among o (gate_of b j).operands → FromStand b cut new o loop.next → OnLoop b j
    outside-loop j e l m o a (itself k is l' m' e') =
        kept-loop j e l m k (among_reads b j k (rw is at a)) (kept-path loop.back k e' l' m')
    outside-loop j e l m o a (shown k is m' o' from) =
        absurd (no_way_back j e l m k (among_reads b j k (rw is at a)) m' o' from)

    inside-loop : (t : ℕ) → n ≡ behind_outside b cut t → (o : Operand) → Among o (gate_of new t).operands
        → FromNew b cut new o loop.next → ⊥
    inside-loop t e o a (new_gate u is l' e') =
        new-loop n t u (straight-reads new straight t u (among_reads new t u (rw is at a))) e
        (new-path loop.back u l' e')
    inside-loop t e o a (net i k u is l' m' e') =
        let f = (free-path loop.back k e' l' (fits.independent i k u is)).end in
        number-not-new b cut f.old t f.there (free-outside b cut f.old f.free) (sym f.number ∙ e)

    pub was-on-loop : WasOnLoop b cut n
    was-on-loop = go (read-cases b cut own new whole stands fits long n loop.next loop.is_read)
      where
        go : ReadAfter b cut new n loop.next → WasOnLoop b cut n
        go (by_outside j l m e o a from) =
            record { old = j; there = l; apart = m; number = e; loop = outside-loop j e l m o a from }
        go (by_new t l e o a from) = absurd (inside-loop t e o a from)
