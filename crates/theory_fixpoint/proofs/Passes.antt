-- As many passes over a group of gates as it has gates put it above its settled values, from any start, where the gates
-- that it reads outside itself are so already. Cited for the number of passes that a group needs.
--   passes-above-round     as many passes as a round defines gates of the group put it above that round
--   passes-above-settled   as many as it has gates put it above the settled values
-- Assumes nothing.
use Prim.Native.Nat.{ℕ, zero, suc, ◌≤◌, ◌<◌}
use mathlib.Core.Path.{◌≡◌, sym, ◌∙◌}
use mathlib.Core.Logic.{◌⊎◌, inl, inr, ⊎_elim}
use mathlib.Core.Bool.{false≢true}
use mathlib.Core.List.{List, [], ◌∷◌}
use native.Mathlib.Omega.{arith}
use lib.ListN.{length, get_or, get_or-eq_default}
use Rattle.prelude.specs.Lists.{repeated}
use Rattle.prelude.proofs.Tests.{lt-or-le}
use Rattle.prelude.proofs.Lists.{member-head, member-rest, member-first}
use Rattle.netlist.specs.Values.{Value, undefined}
use Rattle.netlist.specs.Netlist.{Block, gate_count, gate_of}
use Rattle.netlist.specs.Rounds.{evaluated, after_rounds, rounds, settled}
use Rattle.theory_fixpoint.specs.Order.{Below, BelowOn, Listed, Follows, defined_among}
use Rattle.netlist.specs.Steps.{step_at, run}
use Rattle.theory_fixpoint.proofs.Values.{below-of-eq, below-of-undefined, below-trans}
use Rattle.theory_fixpoint.proofs.Evaluation.{evaluated-mono}
use Rattle.theory_fixpoint.proofs.ListFacts.{member-repeated, AfterSet, new, old, after-set}
use Rattle.theory_fixpoint.proofs.States.{start-below, below_set}
use Rattle.theory_fixpoint.proofs.Counting.{defined_among-le, defined_among-mono, defined_among-same}
use Rattle.theory_fixpoint.proofs.Rounds.{get_d-round, length-after_rounds, after_rounds-grow}
use Rattle.theory_fixpoint.proofs.LeastState.{after_rounds-below-settled}
use Rattle.theory_fixpoint.proofs.AnyOrder.{length-step, run-append}

module _ (b : Block) (x : List Value) (before : ℕ → Type 0) (group : List ℕ) (follows : Follows b before group) where
  -- what a pass starts from: above the settled values before the group, and above round r's on it
  record Ready (r : ℕ) (v : List Value) : Type 0 where
    sized : length v ≡ gate_count b
    settled_before : BelowOn before (settled b x) v
    round_in : BelowOn (Listed group) (after_rounds b x r) v

  -- each gate of the group then evaluates above the next round's value
  evaluated-above : (r : ℕ) (v : List Value) → Ready r v → (j : ℕ) → Listed group j
      → Below (get_or (after_rounds b x (suc r)) j undefined) (evaluated x v (gate_of b j))
  unfolding after_rounds
  evaluated-above r v h j s =
      rw (get_d-round b x (after_rounds b x r) j)
      (evaluated-mono x (after_rounds b x r) v b j
      (λ k q. ⊎_elim (λ e. below-trans (after_rounds-below-settled b x r k) (h.settled_before k e)) (h.round_in k)
      (follows.inside j k s q)))

  undefined-outside : (r k : ℕ) → gate_count b ≤ k → get_or (after_rounds b x r) k undefined ≡ undefined
  undefined-outside r k l = get_or-eq_default (after_rounds b x r) undefined {n = k} (rw (length-after_rounds b x r) l)

  step-ready : (r : ℕ) (v : List Value) → Ready r v → (i : ℕ) → Listed group i → Ready r (step_at b x i v)
  unfolding step_at
  step-ready r v h i s =
      record {
        sized = length-step b x i v ∙ h.sized;
        settled_before =
            below_set before (settled b x) v i (evaluated x v (gate_of b i)) h.settled_before
            (λ e. absurd (follows.apart i e s));
        round_in =
            below_set (Listed group) (after_rounds b x r) v i (evaluated x v (gate_of b i)) h.round_in
            (λ _. below-trans (after_rounds-grow b x r i) (evaluated-above r v h i s));
      }

  run-ready : (r : ℕ) (js : List ℕ) (v : List Value) → Ready r v → ((i : ℕ) → Listed js i → Listed group i)
      → Ready r (run b x js v)
  unfolding run
  run-ready r [] v h in_group = h
  run-ready r (i ∷ js) v h in_group =
      run-ready r js (step_at b x i v) (step-ready r v h i (in_group i (member-head i js)))
      (λ k s. in_group k (member-rest k i js s))

  -- a gate that is above the next round, or is still to be evaluated, ends above it
  run-above : (r : ℕ) (js : List ℕ) (v : List Value) → Ready r v → ((i : ℕ) → Listed js i → Listed group i)
      → (k : ℕ) → Listed group k → Below (get_or (after_rounds b x (suc r)) k undefined) (get_or v k undefined) ⊎ Listed js k
      → Below (get_or (after_rounds b x (suc r)) k undefined) (get_or (run b x js v) k undefined)
  unfolding run step_at
  run-above r [] v h in_group k s (inl p) = p
  run-above r [] v h in_group k s (inr m) = absurd (false≢true m)
  run-above r (i ∷ js) v h in_group k s c =
      run-above r js (step_at b x i v) (step-ready r v h i (in_group i (member-head i js)))
      (λ k s. in_group k (member-rest k i js s)) k s
      (go (after-set v i k (evaluated x v (gate_of b i)) undefined) c)
    where
      go : AfterSet v i k (evaluated x v (gate_of b i)) undefined
          → Below (get_or (after_rounds b x (suc r)) k undefined) (get_or v k undefined) ⊎ Listed (i ∷ js) k
          → Below (get_or (after_rounds b x (suc r)) k undefined) (get_or (step_at b x i v) k undefined) ⊎ Listed js k
      go (new e l q) c = inl (below-trans (rw (← e) (evaluated-above r v h k s)) (below-of-eq (sym q)))
      go (old n q) (inl p) = inl (below-trans p (below-of-eq (sym q)))
      go (old n q) (inr m) =
          ⊎_elim (λ e. inl (below-of-undefined _ (undefined-outside (suc r) k (omega (arith, n e, h.sized)))))
          (λ t. inr t)
          (member-first k i js m)

  -- a pass over the group puts it above the next round
  pass-above : (r : ℕ) (v : List Value) → Ready r v → Ready (suc r) (run b x group v)
  pass-above r v h =
      let after : Ready r (run b x group v) = run-ready r group v h (λ i s. s) in
      record {
        sized = after.sized;
        settled_before = after.settled_before;
        round_in = λ k s. run-above r group v h (λ i s. s) k s (inr s);
      }

  module _ (v : List Value) (sized : length v ≡ gate_count b) (settled_before : BelowOn before (settled b x) v) where
    start : Ready zero v
    unfolding after_rounds
    start = record { sized = sized; settled_before = settled_before; round_in = λ k s. start-below (gate_count b) v k }

    passes-ready : (r p : ℕ) → defined_among group (after_rounds b x r) ≤ p → Ready r (run b x (repeated p group) v)
    passes-ready zero p l =
        run-ready zero (repeated p group) v start (λ i s. member-repeated i p group s)
    passes-ready (suc r) p l = go (lt-or-le (count r) (count (suc r))) p l (passes-ready r)
      where
        count : ℕ → ℕ
        count n = defined_among group (after_rounds b x n)

        go : (count r < count (suc r)) ⊎ (count (suc r) ≤ count r) → (p : ℕ) → count (suc r) ≤ p
            → ((p : ℕ) → count r ≤ p → Ready r (run b x (repeated p group) v))
            → Ready (suc r) (run b x (repeated p group) v)
        go (inl c) zero l h = absurd (omega arith)
        go (inl c) (suc p) l h = rw (run-append b x (repeated p group) group v)
            (pass-above r (run b x (repeated p group) v) (h p (omega arith)))
        go (inr c) p l h =
            let grown : BelowOn (Listed group) (after_rounds b x r) (after_rounds b x (suc r)) =
            λ k s. after_rounds-grow b x r k in
            let ready : Ready r (run b x (repeated p group) v) =
            h p (omega (arith, defined_among-mono (after_rounds b x r) (after_rounds b x (suc r)) group grown)) in
            record {
              sized = ready.sized;
              settled_before = ready.settled_before;
              round_in =
                  λ k s. below-trans (below-of-eq
                  (sym (defined_among-same (after_rounds b x r) (after_rounds b x (suc r)) group grown c k s)))
                  (ready.round_in k s);
            }

    -- As many passes as a round defines gates of the group put it above that round.
    pub passes-above-round : (r p : ℕ) → defined_among group (after_rounds b x r) ≤ p
        → BelowOn (Listed group) (after_rounds b x r) (run b x (repeated p group) v)
    passes-above-round r p l = (passes-ready r p l).round_in

    -- As many passes as the group has gates put it above its settled values.
    pub passes-above-settled : BelowOn (Listed group) (settled b x) (run b x (repeated (length group) group) v)
    unfolding settled
    passes-above-settled =
        passes-above-round (rounds b x) (length group) (defined_among-le group (after_rounds b x (rounds b x)))
