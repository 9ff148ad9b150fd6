-- One gate at a time, in any order: from a state below the settled values every step stays below them, and where it
-- comes to rest it is settled. Cited for in-place evaluation and for the run of a rendering.
--   length_run, run-append, run-elsewhere   a run of steps: its length, in two parts, and gates that are not stepped
--   step-mono-on, run-mono-on               it grows with the state, on a set that its gates read
--   run-below-settled, any-order-below      it stays below the settled values
--   any-order-settled                       at rest it is settled
-- Assumes nothing.
use Prim.Native.Nat.{ℕ, ◌<◌}
use mathlib.Core.Path.{◌≡◌, refl, sym, ◌∙◌}
use mathlib.Core.Bool.{true, false}
use mathlib.Core.List.{List, [], ◌∷◌, ◌++◌}
use lib.ListN.{length, get_or, replicate, length-set, length-replicate}
use lib.Dec.{eqb}
use lib.Seq.{ext_get_or, get_or-set_other}
use borrow.Author.Tests.{eqb-false}
use Rattle.prelude.specs.Lists.{member}
use Rattle.prelude.proofs.Tests.{or-neither}
use Rattle.prelude.proofs.Lists.{member-head, member-rest}
use Rattle.netlist.specs.Values.{Value, undefined}
use Rattle.netlist.specs.Netlist.{Block, gate_count, gate_of}
use Rattle.netlist.specs.Rounds.{evaluated, settled}
use Rattle.netlist.specs.Groups.{reads}
use Rattle.theory_fixpoint.specs.Order.{BelowOn, BelowAll, Listed}
use Rattle.netlist.specs.Steps.{step_at, run}
use Rattle.theory_fixpoint.proofs.Values.{below-of-eq, below-trans}
use Rattle.theory_fixpoint.proofs.Evaluation.{evaluated-mono, evaluated-mono-all}
use Rattle.theory_fixpoint.proofs.States.{start-below, set_below, set-below-set}
use Rattle.theory_fixpoint.proofs.Rounds.{evaluated-settled, length-settled}
use Rattle.theory_fixpoint.proofs.LeastState.{fixed-settled-on}

module _ (b : Block) (x : List Value) where
  pub length-step : (j : ℕ) (v : List Value) → length (step_at b x j v) ≡ length v
  unfolding step_at
  length-step j v = length-set v j (evaluated x v (gate_of b j))

  pub length_run : (js : List ℕ) (v : List Value) → length (run b x js v) ≡ length v
  unfolding run
  length_run [] v = refl
  length_run (j ∷ js) v = length_run js (step_at b x j v) ∙ length-step j v

  -- Steps along one list and then another.
  pub run-append : (js ks : List ℕ) (v : List Value) → run b x (js ++ ks) v ≡ run b x ks (run b x js v)
  unfolding run
  run-append [] ks v = refl
  run-append (j ∷ js) ks v = run-append js ks (step_at b x j v)

  -- Steps change no gate that is not among them.
  pub run-elsewhere : (js : List ℕ) (v : List Value) (k : ℕ) → member k js ≡ false
      → get_or (run b x js v) k undefined ≡ get_or v k undefined
  unfolding run step_at
  run-elsewhere [] v k h = refl
  run-elsewhere (j ∷ js) v k h =
      run-elsewhere js (step_at b x j v) k (or-neither (eqb k j) (member k js) h).1
      ∙ get_or-set_other v j k (evaluated x v (gate_of b j)) undefined
      (eqb-false k j (or-neither (eqb k j) (member k js) h).0)

  module _ (S : ℕ → Type 0) where
    -- A step at a gate that reads only gates of a set keeps the order of two states on the set.
    pub step-mono-on : (j : ℕ) → ((k : ℕ) → reads b j k ≡ true → S k) → (u w : List Value) → length u ≡ length w
        → BelowOn S u w
        → BelowOn S (step_at b x j u) (step_at b x j w)
    unfolding step_at
    step-mono-on j inside u w e h =
        set-below-set S u w j (evaluated x u (gate_of b j)) h (evaluated x w (gate_of b j)) e
        (λ s. evaluated-mono x u w b j (λ k r. h k (inside k r)))

    -- So do steps along one list of such gates.
    pub run-mono-on : (js : List ℕ) → ((j k : ℕ) → Listed js j → reads b j k ≡ true → S k) → (u w : List Value)
        → length u ≡ length w
        → BelowOn S u w → BelowOn S (run b x js u) (run b x js w)
    unfolding run
    run-mono-on [] inside u w e h = h
    run-mono-on (j ∷ js) inside u w e h =
        run-mono-on js (λ i k m. inside i k (member-rest i j js m)) (step_at b x j u) (step_at b x j w)
        (length-step j u ∙ e ∙ sym (length-step j w)) (step-mono-on j (λ k. inside j k (member-head j js)) u w e h)

  -- The state in which every gate is undefined is below the settled values.
  pub start-below-settled : BelowAll (replicate (gate_count b) undefined) (settled b x)
  start-below-settled = start-below (gate_count b) (settled b x)

  -- A step from below the settled values stays below them.
  pub step-below-settled : (j : ℕ) (v : List Value) → BelowAll v (settled b x) → BelowAll (step_at b x j v) (settled b x)
  unfolding step_at
  step-below-settled j v h k =
      set_below (λ _. Unit) v (settled b x) j (evaluated x v (gate_of b j)) (λ i s. h i)
      (λ s. below-trans (evaluated-mono-all x v (settled b x) (gate_of b j) h) (below-of-eq (evaluated-settled b x j))) k
      tt

  -- So do any steps.
  pub run-below-settled : (js : List ℕ) (v : List Value) → BelowAll v (settled b x)
      → BelowAll (run b x js v) (settled b x)
  unfolding run
  run-below-settled [] v h = h
  run-below-settled (j ∷ js) v h = run-below-settled js (step_at b x j v) (step-below-settled j v h)

  -- A state below the settled values and fixed at every gate is the settled one.
  pub fixed-settled : (v : List Value) → length v ≡ gate_count b → BelowAll v (settled b x)
      → ((j : ℕ) → j < gate_count b → evaluated x v (gate_of b j) ≡ get_or v j undefined) → v ≡ settled b x
  fixed-settled v e h fixed =
      ext_get_or undefined v (settled b x) (e ∙ sym (length-settled b x))
      (λ j l. fixed-settled-on b x (λ _. Unit) v (λ i k s m q. tt) (λ i s. h i) (λ i s m. fixed i m) j tt)

  -- Paper 14: along any steps from all undefined, no gate holds 0 or 1 unless that is its settled value,
  pub any-order-below : (js : List ℕ) → BelowAll (run b x js (replicate (gate_count b) undefined)) (settled b x)
  any-order-below js = run-below-settled js (replicate (gate_count b) undefined) start-below-settled

  -- Where no gate's evaluation would change the end of a run, the end is the settled state.
  pub any-order-settled : (js : List ℕ)
      → ((j : ℕ) → j < gate_count b
      → evaluated x (run b x js (replicate (gate_count b) undefined)) (gate_of b j)
      ≡ get_or (run b x js (replicate (gate_count b) undefined)) j undefined)
      → run b x js (replicate (gate_count b) undefined) ≡ settled b x
  any-order-settled js fixed =
      fixed-settled (run b x js (replicate (gate_count b) undefined))
      (length_run js (replicate (gate_count b) undefined) ∙ length-replicate (gate_count b) undefined)
      (any-order-below js) fixed
