-- How many gates of a list have a value 0 or 1: the count grows with the state, and where it does not, nothing on the
-- list changed. Cited for the fixed point within m rounds, and for the passes over a group.
--   defined_among-le, defined_among-mono   at most the list's length; grows with the state
--   defined_among-same, same-by-count     no more defined, so nothing changed
-- Assumes nothing.
use Prim.Native.Nat.{ℕ, ◌≤◌}
use mathlib.Core.Path.{◌≡◌, refl, sym, ◌∙◌}
use mathlib.Core.Logic.{⊎_elim}
use mathlib.Core.Bool.{cond, false≢true}
use mathlib.Core.List.{List, [], ◌∷◌}
use native.Mathlib.Omega.{arith}
use borrow.Author.Tests.{eq-eqb}
use lib.ListN.{length, get_or}
use lib.Dec.{eqb}
use lib.Seq.{ext_get_or}
use Rattle.prelude.specs.Lists.{up_to}
use Rattle.prelude.proofs.Quantifiers.{below-any}
use Rattle.prelude.proofs.Lists.{member-head, member-rest, member-first}
use Rattle.netlist.specs.Values.{Value, undefined, val, is_defined}
use Rattle.theory_fixpoint.specs.Order.{Below, BelowOn, BelowAll, Listed, defined_among}

-- one value counts 1 where it is 0 or 1
one : Value → ℕ
one v = cond (is_defined v) 1 0

one-le : (v : Value) → one v ≤ 1
unfolding one is_defined
one-le undefined = omega arith
one-le (val b) = omega arith

one-mono : (v w : Value) → Below v w → one v ≤ one w
unfolding one is_defined
one-mono undefined w h = omega arith
one-mono (val b) w h = rw (h b refl) (omega arith)

one_same : (v w : Value) → Below v w → one w ≤ one v → v ≡ w
unfolding one is_defined
one_same undefined undefined h l = refl
one_same undefined (val b) h l = absurd (omega arith)
one_same (val b) w h l = sym (h b refl)

-- The count is at most the list's length.
pub defined_among-le : (js : List ℕ) (v : List Value) → defined_among js v ≤ length js
unfolding defined_among one
defined_among-le [] v = omega arith
defined_among-le (j ∷ js) v = omega (arith, one-le (get_or v j undefined), defined_among-le js v)

module _ (v w : List Value) where
  head-below : (j : ℕ) (js : List ℕ) → BelowOn (Listed (j ∷ js)) v w → Below (get_or v j undefined) (get_or w j undefined)
  head-below j js h = h j (member-head j js)

  rest_below : (j : ℕ) (js : List ℕ) → BelowOn (Listed (j ∷ js)) v w → BelowOn (Listed js) v w
  rest_below j js h k s = h k (member-rest k j js s)

  -- The count grows with the state.
  pub defined_among-mono : (js : List ℕ) → BelowOn (Listed js) v w → defined_among js v ≤ defined_among js w
  unfolding defined_among one
  defined_among-mono [] h = omega arith
  defined_among-mono (j ∷ js) h =
      omega (
        arith,
        one-mono (get_or v j undefined) (get_or w j undefined) (head-below j js h),
        defined_among-mono js (rest_below j js h),
      )

  -- Where the count does not grow, nothing on the list changed.
  pub defined_among-same : (js : List ℕ) → BelowOn (Listed js) v w → defined_among js w ≤ defined_among js v
      → (j : ℕ) → Listed js j → get_or v j undefined ≡ get_or w j undefined
  unfolding defined_among one
  defined_among-same [] h l j s = absurd (false≢true s)
  defined_among-same (i ∷ js) h l j s =
      let a : one (get_or v i undefined) ≤ one (get_or w i undefined) =
      one-mono (get_or v i undefined) (get_or w i undefined) (head-below i js h) in
      let m : defined_among js v ≤ defined_among js w = defined_among-mono js (rest_below i js h) in
      let rest : (j : ℕ) → Listed js j → get_or v j undefined ≡ get_or w j undefined =
      defined_among-same js (rest_below i js h) (omega arith) in
      let same : get_or v i undefined ≡ get_or w i undefined =
      one_same (get_or v i undefined) (get_or w i undefined) (head-below i js h) (omega arith) in
      ⊎_elim (λ e. rw e same) (rest j) (member-first j i js s)

  -- Where no gate more is defined, the whole state is the same.
  pub same-by-count : (n : ℕ) → length v ≡ n → length w ≡ n → BelowAll v w
      → defined_among (up_to n) w ≤ defined_among (up_to n) v → v ≡ w
  same-by-count n e f h l =
      ext_get_or undefined v w (e ∙ sym f)
      (λ j m. defined_among-same (up_to n) (λ k s. h k) l j (below-any (eqb j) n j (rw e at m) (eq-eqb j j refl)))
