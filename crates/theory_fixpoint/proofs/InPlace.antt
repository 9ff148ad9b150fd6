-- Chaotic iteration from all undefined rises: a gate that is 0 or 1 keeps its value, so that evaluating gates in place
-- only adds to the state.
--   start-rising, step-rising, run-rising   every step only adds
--   run-grows                               so does a run of steps
-- Assumes nothing.
use Prim.Native.Nat.{ℕ, ◌<◌}
use mathlib.Core.Path.{◌≡◌, sym, ap, ◌∙◌, subst}
use mathlib.Core.Logic.{⊎_elim}
use mathlib.Core.Bool.{false≢true}
use mathlib.Core.List.{List, [], ◌∷◌}
use lib.ListN.{length, get_or, replicate}
use lib.Seq.{get_or-set_same}
use Rattle.prelude.proofs.Lists.{member-first}
use Rattle.netlist.specs.Values.{Value, undefined}
use Rattle.netlist.specs.Netlist.{Block, gate_of}
use Rattle.netlist.specs.Rounds.{evaluated}
use Rattle.theory_fixpoint.specs.Order.{Below, BelowAll, Listed, Rising}
use Rattle.netlist.specs.Steps.{step_at, run}
use Rattle.theory_fixpoint.proofs.Values.{below-of-eq, below-of-undefined, below-refl, below-trans}
use Rattle.theory_fixpoint.proofs.Evaluation.{evaluated-mono-all}
use Rattle.theory_fixpoint.proofs.ListFacts.{get_d-replicate-default, AfterSet, new, old, after-set}
use Rattle.theory_fixpoint.proofs.States.{states-antisym, below_set}
use Rattle.theory_fixpoint.proofs.AnyOrder.{length-step}

module _ (b : Block) (x : List Value) where
  -- All undefined is rising.
  pub start-rising : (n : ℕ) → Rising b x (replicate n undefined)
  start-rising n j =
      below-of-undefined (evaluated x (replicate n undefined) (gate_of b j)) (get_d-replicate-default n j undefined)

  -- A step adds to a rising state,
  pub step-grows : (j : ℕ) (v : List Value) → Rising b x v → BelowAll v (step_at b x j v)
  unfolding step_at
  step-grows j v h k =
      below_set (λ _. Unit) v v j (evaluated x v (gate_of b j)) (λ i s. below-refl (get_or v i undefined)) (λ s. h j) k tt

  -- A step leaves a rising state rising.
  pub step-rising : (j : ℕ) (v : List Value) → Rising b x v → Rising b x (step_at b x j v)
  unfolding step_at
  step-rising j v h k = go (after-set v j k (evaluated x v (gate_of b j)) undefined)
    where
      up : (i : ℕ) → Below (evaluated x v (gate_of b i)) (evaluated x (step_at b x j v) (gate_of b i))
      up i = evaluated-mono-all x v (step_at b x j v) (gate_of b i) (step-grows j v h)

      go : AfterSet v j k (evaluated x v (gate_of b j)) undefined
          → Below (get_or (step_at b x j v) k undefined) (evaluated x (step_at b x j v) (gate_of b k))
      go (new e l q) = below-trans (below-of-eq q) (rw e (up j))
      go (old n q) = below-trans (below-of-eq q) (below-trans (h k) (up k))

  -- So do any steps.
  pub run-grows : (js : List ℕ) (v : List Value) → Rising b x v → BelowAll v (run b x js v)
  unfolding run
  run-grows [] v h j = below-refl (get_or v j undefined)
  run-grows (i ∷ js) v h j = below-trans (step-grows i v h j) (run-grows js (step_at b x i v) (step-rising i v h) j)

  pub run-rising : (js : List ℕ) (v : List Value) → Rising b x v → Rising b x (run b x js v)
  unfolding run
  run-rising [] v h = h
  run-rising (i ∷ js) v h = run-rising js (step_at b x i v) (step-rising i v h)

  -- Where steps change nothing, each gate among them has its value.
  pub run-fixed : (js : List ℕ) (v : List Value) → Rising b x v → BelowAll (run b x js v) v
      → (j : ℕ) → Listed js j → j < length v → evaluated x v (gate_of b j) ≡ get_or v j undefined
  unfolding run step_at
  run-fixed [] v h l j s m = absurd (false≢true s)
  run-fixed (i ∷ js) v h l j s m =
      let back : BelowAll (step_at b x i v) v =
      λ k. below-trans (run-grows js (step_at b x i v) (step-rising i v h) k) (l k) in
      let e : step_at b x i v ≡ v = states-antisym (step_at b x i v) v (length-step b x i v) back (step-grows i v h) in
      let now : j ≡ i → evaluated x v (gate_of b j) ≡ get_or v j undefined =
      λ q. sym (get_or-set_same v j (evaluated x v (gate_of b j)) undefined m)
      ∙ rw q (ap (λ (u : List Value). get_or u i undefined) e) in
      let later : Listed js j → evaluated x v (gate_of b j) ≡ get_or v j undefined =
      λ t. subst (λ (u : List Value). evaluated x u (gate_of b j) ≡ get_or u j undefined) e
      (run-fixed js (step_at b x i v) (step-rising i v h) (λ k. below-trans (l k) (step-grows i v h k)) j t
      (rw (length-step b x i v) m)) in
      ⊎_elim now later (member-first j i js s)
