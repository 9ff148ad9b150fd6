-- States in the information order: the start, a store in one or both, and equality from both directions.
--   start-below, states-antisym           all undefined is lowest; equal from both sides
--   set_below, below_set, set-below-set   a store on the left, the right, both
-- Assumes nothing.
use Prim.Native.Nat.{ℕ}
use mathlib.Core.Path.{◌≡◌, sym}
use mathlib.Core.List.{List}
use native.Mathlib.Omega.{arith}
use lib.ListN.{length, get_or, set, replicate}
use lib.Seq.{ext_get_or}
use Rattle.netlist.specs.Values.{Value, undefined}
use Rattle.theory_fixpoint.specs.Order.{Below, BelowOn, BelowAll}
use Rattle.theory_fixpoint.proofs.Values.{below-of-undefined, below-of-eq, below-trans, below-antisym}
use Rattle.theory_fixpoint.proofs.ListFacts.{get_d-replicate-default, AfterSet, new, old, after-set}

-- The state in which every gate is undefined is below every state.
pub start-below : (n : ℕ) (w : List Value) → BelowAll (replicate n undefined) w
start-below n w j = below-of-undefined (get_or w j undefined) (get_d-replicate-default n j undefined)

-- Two states of one length that are below each other are one.
pub states-antisym : (v w : List Value) → length v ≡ length w → BelowAll v w → BelowAll w v → v ≡ w
states-antisym v w e h k =
    ext_get_or undefined v w e (λ j l. below-antisym (get_or v j undefined) (get_or w j undefined) (h j) (k j))

module _ (S : ℕ → Type 0) (v w : List Value) (i : ℕ) (a : Value) (below : BelowOn S v w) where
  -- A value stored in the lower state, below the upper state's, keeps the order.
  pub set_below : (S i → Below a (get_or w i undefined)) → BelowOn S (set v i a) w
  set_below h j s = go (after-set v i j a undefined)
    where
      go : AfterSet v i j a undefined → Below (get_or (set v i a) j undefined) (get_or w j undefined)
      go (new e l q) = below-trans (below-of-eq q) (rw e (h (rw e at s)))
      go (old n q) = below-trans (below-of-eq q) (below j s)

  -- A value stored in the upper state, above the lower state's, keeps the order.
  pub below_set : (S i → Below (get_or v i undefined) a) → BelowOn S v (set w i a)
  below_set h j s = go (after-set w i j a undefined)
    where
      go : AfterSet w i j a undefined → Below (get_or v j undefined) (get_or (set w i a) j undefined)
      go (new e l q) = below-trans (rw e (h (rw e at s))) (below-of-eq (sym q))
      go (old n q) = below-trans (below j s) (below-of-eq (sym q))

  -- Values stored in both states, in order, keep the order.
  pub set-below-set : (c : Value) → length v ≡ length w → (S i → Below a c) → BelowOn S (set v i a) (set w i c)
  set-below-set c e h j s = go (after-set v i j a undefined) (after-set w i j c undefined)
    where
      go : AfterSet v i j a undefined → AfterSet w i j c undefined
          → Below (get_or (set v i a) j undefined) (get_or (set w i c) j undefined)
      go (new f l q) (new f' l' q') = below-trans (below-of-eq q) (below-trans (h (rw f at s)) (below-of-eq (sym q')))
      go (new f l q) (old n q') = absurd (omega (arith, n f))
      go (old n q) (new f l q') = absurd (omega (arith, n f))
      go (old n q) (old n' q') = below-trans (below-of-eq q) (below-trans (below j s) (below-of-eq (sym q')))
