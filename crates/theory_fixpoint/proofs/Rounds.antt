-- Rounds: the states grow, within m rounds a round changes nothing, and from then on none does. Cited by Settle's code
-- and by the laws on steps and sweeps.
--   get_d-round, round_mono                   a round gate by gate; it grows with the state
--   after_rounds-grow, stable-by-count, stable-all   states grow; no more defined means stable; m rounds are enough
--   rounds-le, rounds-stable, rounds-least   how many rounds are needed
--   after_rounds-settled                      from then on the state is settled
--   round-settled, evaluated-settled         a round changes no settled value
-- Assumes nothing.
use Prim.Native.Nat.{ℕ, zero, suc, ◌+◌, ◌-◌, ◌≤◌, ◌<◌}
use mathlib.Core.Path.{◌≡◌, refl, sym, ap, ◌∙◌}
use mathlib.Core.Logic.{◌⊎◌, inl, inr, ⊎_elim}
use mathlib.Core.Bool.{true, false}
use mathlib.Core.List.{List, [], map}
use native.Mathlib.Nat.{le_antisymm, le_trans, zero-add, suc-add}
use native.Mathlib.Omega.{arith}
use lib.ListN.{length, get_or, replicate, length-map, length-replicate, get_or-map, get_or-eq_default}
use Rattle.prelude.specs.Lists.{up_to}
use Rattle.prelude.proofs.Tests.{lt-or-le, not-both}
use Rattle.prelude.proofs.Tab.{length-tab}
use Rattle.prelude.proofs.Same.{same-eq, eq-same}
use Rattle.prelude.proofs.Least.{least-le, least_at, least_first}
use Rattle.netlist.specs.Values.{Value, undefined, invert, code}
use Rattle.netlist.specs.Kinds.{gate_value, is_not}
use Rattle.netlist.specs.Netlist.{Block, gate_count, gate_of}
use Rattle.netlist.specs.Rounds.{evaluated, round, after_rounds, is_stable, rounds, settled}
use Rattle.theory_fixpoint.specs.Order.{BelowAll, defined_among}
use Rattle.theory_fixpoint.proofs.Values.{below-refl, below-trans, code-injective}
use Rattle.theory_fixpoint.proofs.Evaluation.{evaluated-mono-all}
use Rattle.theory_fixpoint.proofs.ListFacts.{map_injective}
use Rattle.theory_fixpoint.proofs.States.{start-below}
use Rattle.theory_fixpoint.proofs.Counting.{defined_among-le, same-by-count}

module _ (b : Block) (x : List Value) where
  -- A round gives every gate a value.
  pub length-round : (v : List Value) → length (round b x v) ≡ gate_count b
  unfolding round
  length-round v = length-map b.gates (evaluated x v)

  pub length-after_rounds : (r : ℕ) → length (after_rounds b x r) ≡ gate_count b
  unfolding after_rounds
  length-after_rounds zero = length-replicate (gate_count b) undefined
  length-after_rounds (suc r) = length-round (after_rounds b x r)

  -- past the end there is no value
  pub evaluated-outside : (v : List Value) (j : ℕ) → gate_count b ≤ j → evaluated x v (gate_of b j) ≡ undefined
  unfolding evaluated gate_value is_not invert
  evaluated-outside v j h = rw (get_or-eq_default b.gates (record { kind = 0; operands = [] }) {n = j} h) refl

  -- After a round each gate has its value evaluated from the state before.
  pub get_d-round : (v : List Value) (j : ℕ) → get_or (round b x v) j undefined ≡ evaluated x v (gate_of b j)
  unfolding round evaluated gate_value is_not invert
  get_d-round v j = get_or-map (evaluated x v) b.gates j (record { kind = 0; operands = [] })

  -- A round keeps the order.
  pub round_mono : (u w : List Value) → BelowAll u w → BelowAll (round b x u) (round b x w)
  round_mono u w h j = rw (get_d-round u j, get_d-round w j) (evaluated-mono-all x u w (gate_of b j) h)

  -- Each round's state is below the next.
  pub after_rounds-grow : (r : ℕ) → BelowAll (after_rounds b x r) (after_rounds b x (suc r))
  unfolding after_rounds
  after_rounds-grow zero = start-below (gate_count b) (round b x (replicate (gate_count b) undefined))
  after_rounds-grow (suc r) = round_mono (after_rounds b x r) (after_rounds b x (suc r)) (after_rounds-grow r)

  grow-plus : (n r : ℕ) → BelowAll (after_rounds b x r) (after_rounds b x (n + r))
  grow-plus zero r j = rw zero-add (below-refl (get_or (after_rounds b x r) j undefined))
  grow-plus (suc n) r j = rw suc-add (below-trans (grow-plus n r j) (after_rounds-grow (n + r) j))

  -- `stable` says that a further round changes nothing.
  pub stable-eq : (r : ℕ) → is_stable b x r ≡ true → after_rounds b x (suc r) ≡ after_rounds b x r
  unfolding is_stable
  stable-eq r h =
      map_injective code code-injective (after_rounds b x (suc r)) (after_rounds b x r)
      (same-eq (map code (after_rounds b x (suc r))) (map code (after_rounds b x r)) h)

  pub eq-stable : (r : ℕ) → after_rounds b x (suc r) ≡ after_rounds b x r → is_stable b x r ≡ true
  unfolding is_stable
  eq-stable r e = eq-same (map code (after_rounds b x (suc r))) (map code (after_rounds b x r)) (ap (map code) e)

  -- once a round changes nothing, the next does not
  stable-next : (r : ℕ) → is_stable b x r ≡ true → is_stable b x (suc r) ≡ true
  unfolding after_rounds
  stable-next r h = eq-stable (suc r) (ap (round b x) (stable-eq r h))

  stable-plus : (n r : ℕ) → is_stable b x r ≡ true → after_rounds b x (n + r) ≡ after_rounds b x r
  unfolding after_rounds
  stable-plus zero r h = rw zero-add refl
  stable-plus (suc n) r h = rw (suc-add, stable-plus n r h) (stable-eq r h)

  -- Once a round changes nothing, no later one does.
  pub stable-later : (r s : ℕ) → r ≤ s → is_stable b x r ≡ true → after_rounds b x s ≡ after_rounds b x r
  stable-later r s l h = let e : s ≡ (s - r) + r = omega arith in ap (after_rounds b x) e ∙ stable-plus (s - r) r h

  -- A round that defines no gate more changes nothing.
  pub stable-by-count : (r : ℕ)
      → defined_among (up_to (gate_count b)) (after_rounds b x (suc r))
      ≤ defined_among (up_to (gate_count b)) (after_rounds b x r)
      → is_stable b x r ≡ true
  stable-by-count r h =
      eq-stable r
      (sym (same-by-count (after_rounds b x r) (after_rounds b x (suc r)) (gate_count b) (length-after_rounds r)
      (length-after_rounds (suc r))
      (after_rounds-grow r) h))

  defined-or-stable : (r : ℕ) → (r ≤ defined_among (up_to (gate_count b)) (after_rounds b x r)) ⊎ (is_stable b x r ≡ true)
  defined-or-stable zero = inl (omega arith)
  defined-or-stable (suc r) = go (defined-or-stable r) (lt-or-le before after)
    where
      before : ℕ
      before = defined_among (up_to (gate_count b)) (after_rounds b x r)

      after : ℕ
      after = defined_among (up_to (gate_count b)) (after_rounds b x (suc r))

      go : (r ≤ before) ⊎ (is_stable b x r ≡ true) → (before < after) ⊎ (after ≤ before)
          → (suc r ≤ after) ⊎ (is_stable b x (suc r) ≡ true)
      go (inl h) (inl l) = inl (omega arith)
      go (inl h) (inr l) = inr (stable-next r (stable-by-count r l))
      go (inr h) l = inr (stable-next r h)

  -- After m rounds a further one changes nothing.
  pub stable-all : is_stable b x (gate_count b) ≡ true
  stable-all = ⊎_elim full (λ h. h) (defined-or-stable (gate_count b))
    where
      full : gate_count b ≤ defined_among (up_to (gate_count b)) (after_rounds b x (gate_count b))
          → is_stable b x (gate_count b) ≡ true
      full h =
          stable-by-count (gate_count b)
          (omega (
            arith,
            defined_among-le (up_to (gate_count b)) (after_rounds b x (suc (gate_count b))),
            length-tab (λ k. k) (gate_count b),
          ))

  -- The rounds reported are at most m.
  pub rounds-le : rounds b x ≤ gate_count b
  unfolding rounds
  rounds-le = least-le (is_stable b x) (gate_count b)

  -- After the rounds reported a further one changes nothing.
  pub rounds-stable : is_stable b x (rounds b x) ≡ true
  unfolding rounds
  rounds-stable = go (lt-or-le (rounds b x) (gate_count b))
    where
      go : (rounds b x < gate_count b) ⊎ (gate_count b ≤ rounds b x) → is_stable b x (rounds b x) ≡ true
      go (inl l) = least_at (is_stable b x) (gate_count b) l
      go (inr l) = let e : rounds b x ≡ gate_count b = le_antisymm rounds-le l in rw e stable-all

  -- They are the fewest after which this is so.
  pub rounds-least : (r : ℕ) → is_stable b x r ≡ true → rounds b x ≤ r
  unfolding rounds
  rounds-least r h = ⊎_elim (λ l. l) (λ l. le_trans rounds-le l) (least_first (is_stable b x) (gate_count b) r h)

  -- Counting up to them: a round that changes something is one of them.
  pub rounds-more : (r : ℕ) → r ≤ rounds b x → is_stable b x r ≡ false → suc r ≤ rounds b x
  rounds-more r l h = ⊎_elim (λ m. m) (λ m. not-both {b = is_stable b x r} (rw (le_antisymm l m) rounds-stable) h)
      (lt-or-le r (rounds b x))

  -- The first that changes nothing ends them.
  pub rounds-end : (r : ℕ) → r ≤ rounds b x → is_stable b x r ≡ true → rounds b x ≡ r
  rounds-end r l h = le_antisymm (rounds-least r h) l

  -- The settled values: from the rounds reported on, the state is this one.
  pub after_rounds-settled : (r : ℕ) → rounds b x ≤ r → after_rounds b x r ≡ settled b x
  unfolding settled
  after_rounds-settled r l = stable-later (rounds b x) r l rounds-stable

  -- A round changes no settled value.
  pub round-settled : round b x (settled b x) ≡ settled b x
  unfolding settled after_rounds
  round-settled = stable-eq (rounds b x) rounds-stable

  pub length-settled : length (settled b x) ≡ gate_count b
  unfolding settled
  length-settled = length-after_rounds (rounds b x)

  -- Each settled value is the gate's value, evaluated from the settled values.
  pub evaluated-settled : (j : ℕ) → evaluated x (settled b x) (gate_of b j) ≡ get_or (settled b x) j undefined
  evaluated-settled j = sym (get_d-round (settled b x) j) ∙ ap (λ (v : List Value). get_or v j undefined) round-settled
