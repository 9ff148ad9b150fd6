-- The place of the first element of a list that passes a test, as `position` over a slice and `unwrap_or` answer it, in
-- the words of specs/Lists.antt; and the first number of a range that passes one, as `find` answers it. Assumes nothing.
use mathlib.Core.Path.{◌≡◌, refl, sym, ap, subst, ◌∙◌}
use mathlib.Core.Bool.{Bool, true, false, cond}
use mathlib.Core.List.{List}
use Prim.Native.Nat.{ℕ, zero, suc, ◌+◌, ◌-◌, ◌≤◌, ◌<◌}
use native.Mathlib.Omega.{arith}
use denote.Param.Members.{Mut}
use denote.Ref.{Bor}
use Rattle.std.specs.declared.ops.Range.{Range}
use Rattle.std.proofs.iter.Yields.{nat_range_steps}
use lib.ListN.{length, get_or, take}
use lib.Seq.{get_or-take, length-take-le}
use lib.Dec.{ltb}
use borrow.Author.Tests.{lt-ltb, le-ltb}
use Rattle.std.specs.Bool.{⊤}
use Rattle.std.specs.declared.option.Option.{Option}
use Rattle.std.specs.declared.option.Option.TheVariants.{None, Some}
use Rattle.std.specs.Option.{MatchOption, unwrap_or}
use Rattle.std.specs.List.{FoldsTo, position_or_len, find, range_with_len}
use Rattle.std.specs.Fn.{Called, CalledAt}
use Rattle.std.specs.Iterator.{YieldsThen}
use Rattle.std.proofs.lemmas.Iterator.{YieldsList, YieldsList-from_range}
use Rattle.std.proofs.lemmas.Iterator.Search.{position_from_yields_List, find_from_yields_List}
use Rattle.std.proofs.lemmas.List.Sums.{prefix_len-le-length, fails_before_first, passes_at_first}
use Rattle.prelude.specs.Lists.{least}
use Rattle.prelude.proofs.Tests.{lt-or-le, eq-or-ne}
use Rattle.prelude.proofs.Least.{least-is}
use Rattle.prelude.proofs.Ranges.{same-option}
use mathlib.Core.Logic.{⊎_elim}
use mathlib.Core.Bool.{not}

module _ {A : Type 0} (p : A → Bool) (xs : List A) (d : A) (n : ℕ) (l : n ≤ length xs) where
  abbrev place : ℕ
  place = position_or_len p (take n xs)

  size : length (take n xs) ≡ n
  size = length-take-le n xs l

  pub within : place ≤ n
  within = omega (arith, size, prefix_len-le-length (λ x. not (p x)) (take n xs))

  -- the first of the first n elements that passes is the least number whose element does
  pub place-least : place ≡ least (λ j. p (get_or xs j d)) n
  place-least =
      sym
      (least-is (λ j. p (get_or xs j d)) n place within
      (λ j q. sym (ap p (get_or-take n xs j d (let w = within in omega arith)))
      ∙ fails_before_first p (take n xs) j d q)
      (λ q. sym (ap p (get_or-take n xs place d q)) ∙ passes_at_first p (take n xs) d (omega (arith, size))))

unwrapped : (k n : ℕ) → k ≤ n → unwrap_or (cond (ltb k n) (Some k) None) n ≡ k
unwrapped k n l =
    ⊎_elim (λ (q : k < n). rw (lt-ltb k n q))
    (λ (q : n ≤ k). rw (le-ltb k n q) (omega arith)) (lt-or-le k n)

-- `xs[..n].iter().position(..).unwrap_or(n)` and the like, where the closure computes the test p of each element
pub least-of_position : {S A B F : Type 0} {steps : S → Option A → S → Type 0} {v : A → B} {g : Mut F (A × Unit {0}) Bool}
    {s : S} (p : B → Bool) (xs : List B) (d : B) (n : ℕ) (u : S) (f : F) (r : Option ℕ) → n ≤ length xs
    → (ys : List A) × (o : Option A) × (j : F) × YieldsThen steps s ys o u
    × FoldsTo (λ p x q. Called g p (x, tt) false q) f ys j
    × MatchOption o (r ≡ None) (λ x. (r ≡ Some (length ys)) × ((h : F) × Called g j (x, tt) true h))
    → YieldsList steps v s (take n xs)
    → ((x : A) (b : Bool) (q : F) → Called g f (x, tt) b q → (q ≡ f) × (b ≡ p (v x)))
    → unwrap_or r n ≡ least (λ j. p (get_or xs j d)) n
least-of_position p xs d n u f r l ran road computes =
    rw (position_from_yields_List p u f r ran road computes, size p xs d n l)
    (unwrapped (place p xs d n l) n (within p xs d n l) ∙ place-least p xs d n l)

-- x is the first of the numbers from k on, below e, that passes the test
pub record Found (p : ℕ → Bool) (k e x : ℕ) : Type 0 where
  pub from : k ≤ x
  pub below : x < e
  pub passes : p x ≡ true
  pub passed : (j : ℕ) → k ≤ j → j < x → p j ≡ false

abbrev pub FoundFrom : (ℕ → Bool) → ℕ → ℕ → Option ℕ → Type 0
FoundFrom p k e r = MatchOption r ((j : ℕ) → k ≤ j → j < e → p j ≡ false) (λ x. Found p k e x)

found-turn : (p : ℕ → Bool) (k e : ℕ) (b : Bool) (o : Option ℕ) → p k ≡ b → k < e → FoundFrom p (k + 1) e o
    → FoundFrom p k e (cond b (Some k) o)
found-turn p k e true o t l h =
    record { from = omega arith; below = l; passes = t; passed = λ j a b. absurd (omega arith) }
found-turn p k e false (Some x) t l h =
    record {
      from = let f = h.from in omega arith;
      below = h.below;
      passes = h.passes;
      passed = λ j a b. ⊎_elim (λ (q : j ≡ k). rw q t) (λ ne. h.passed j (omega arith) b) (eq-or-ne j k);
    }
found-turn p k e false None t l h =
    λ j a b. ⊎_elim (λ (q : j ≡ k). rw q t) (λ ne. h j (omega arith) b) (eq-or-ne j k)

found-from : (p : ℕ → Bool) (k e n : ℕ) → e - k ≡ n → FoundFrom p k e (find p (range_with_len k n))
found-from p k e zero l = λ j a b. absurd (omega arith)
found-from p k e (suc n) l =
    found-turn p k e (p k) (find p (range_with_len (k + 1) n)) refl (omega arith) (found-from p (k + 1) e n (omega arith))

-- `(k..e).find(..)`, where the closure computes the test p of each number
pub first-of_range : {F : Type 0} {g : Mut F (Bor ℕ × Unit {0}) Bool} (u : Range ℕ) {f : F} (r : Option ℕ) (p : ℕ → Bool)
    (k e : ℕ)
    → (xs : List ℕ) × (j : F) × YieldsThen nat_range_steps (record { start = k; end = e }) xs r u
    × FoldsTo (λ p x q. CalledAt g p x false q) f xs j
    × MatchOption r ⊤ (λ x. (h : F) × CalledAt g j x true h)
    → ((x : ℕ) (b : Bool) (q : F) → CalledAt g f x b q → (q ≡ f) × (b ≡ p x))
    → FoundFrom p k e r
first-of_range u {f = f} r p k e ran computes =
    subst (FoundFrom p k e)
    (sym (same-option r (find_from_yields_List p u f r ran (YieldsList-from_range k e (e - k) refl refl) computes)))
    (found-from p k e (e - k) refl)
