-- Searches that answer none where nothing passes, in the words of specs/Lists.antt.
--   found-least                          what the lowest number that passes is
--   found-of_range, found-of_position    what `find` over a range and `position` over a slice answer
--   below-some, below-none               whether there is one
-- Assumes nothing.
use mathlib.Core.Path.{◌≡◌, refl, sym}
use mathlib.Core.Bool.{Bool, true, false, cond}
use mathlib.Core.List.{List}
use Prim.Native.Nat.{ℕ, ◌<◌}
use native.Mathlib.Omega.{arith}
use denote.Param.Members.{Mut}
use denote.Ref.{Bor}
use lib.ListN.{length, get_or}
use lib.Seq.{take_all}
use lib.Dec.{ltb, leb}
use borrow.Author.Tests.{ltb-true, ltb-false, lt-ltb, le-ltb, lt-leb, le-leb}
use mathlib.Core.Logic.{⊎_elim}
use Rattle.std.specs.declared.ops.Range.{Range}
use Rattle.std.specs.declared.option.Option.{Option}
use Rattle.std.specs.declared.option.Option.TheVariants.{None, Some}
use Rattle.std.specs.Option.{MatchOption, is_some, is_none}
use Rattle.std.specs.Bool.{⊤}
use Rattle.std.specs.Fn.{Called, CalledAt}
use Rattle.std.specs.Iterator.{YieldsThen}
use Rattle.std.specs.List.{FoldsTo, position_or_len}
use Rattle.std.proofs.iter.Yields.{nat_range_steps}
use Rattle.std.proofs.lemmas.Iterator.{YieldsList}
use Rattle.std.proofs.lemmas.Iterator.Search.{position_from_yields_List}
use Rattle.prelude.specs.Lists.{least, IfBelow}
use Rattle.prelude.proofs.Places.{FoundFrom, first-of_range, place-least}
use Rattle.prelude.proofs.Least.{least-is}
use Rattle.prelude.proofs.Tests.{lt-or-le}

pub below-some : (k n : ℕ) (r : Option ℕ) → IfBelow k n r → is_some r ≡ ltb k n
below-some k n None h = ⊎_elim (λ (l : k < n). absurd (h l)) (λ l. sym (le-ltb k n l)) (lt-or-le k n)
below-some k n (Some x) h = sym (lt-ltb k n h.0)

pub below-none : (k n : ℕ) (r : Option ℕ) → IfBelow k n r → is_none r ≡ leb n k
below-none k n None h = ⊎_elim (λ (l : k < n). absurd (h l)) (λ l. sym (le-leb n k l)) (lt-or-le k n)
below-none k n (Some x) h = sym (lt-leb n k h.0)

below-test : (k n : ℕ) (b : Bool) → ltb k n ≡ b → IfBelow k n (cond b (Some k) None)
below-test k n true e = (ltb-true k n e, refl)
below-test k n false e = λ l. let g = ltb-false k n e in omega arith

-- the number that was found is the lowest that passes
pub found-least : (p : ℕ → Bool) (n : ℕ) (r : Option ℕ) → FoundFrom p 0 n r → IfBelow (least p n) n r
found-least p n None h =
    let e : least p n ≡ n = least-is p n n (omega arith) (λ i l. h i (omega arith) l) (λ l. absurd (omega arith)) in
    λ l. omega arith
found-least p n (Some x) h =
    let b = h.below in
    let e : least p n ≡ x = least-is p n x (omega arith) (λ i l. h.passed i (omega arith) l) (λ _. h.passes) in
    (omega arith, sym e)

-- `(0..n).find(..)`, where the closure computes the test p of each number
pub found-of_range : {F : Type 0} {g : Mut F (Bor ℕ × Unit {0}) Bool} (u : Range ℕ) {f : F} (r : Option ℕ) (p : ℕ → Bool)
    (n : ℕ)
    → (xs : List ℕ) × (j : F) × YieldsThen nat_range_steps (record { start = 0; end = n }) xs r u
    × FoldsTo (λ p x q. CalledAt g p x false q) f xs j
    × MatchOption r ⊤ (λ x. (h : F) × CalledAt g j x true h)
    → ((x : ℕ) (b : Bool) (q : F) → CalledAt g f x b q → (q ≡ f) × (b ≡ p x))
    → IfBelow (least p n) n r
found-of_range u r p n ran computes = found-least p n r (first-of_range u r p 0 n ran computes)

-- `xs.iter().position(..)` and the like, where the closure computes the test p of each element
pub found-of_position : {S A B F : Type 0} {steps : S → Option A → S → Type 0} {v : A → B} {g : Mut F (A × Unit {0}) Bool}
    {s : S} (p : B → Bool) (xs : List B) (d : B) (u : S) (f : F) (r : Option ℕ)
    → (ys : List A) × (o : Option A) × (j : F) × YieldsThen steps s ys o u
    × FoldsTo (λ p x q. Called g p (x, tt) false q) f ys j
    × MatchOption o (r ≡ None) (λ x. (r ≡ Some (length ys)) × ((h : F) × Called g j (x, tt) true h))
    → YieldsList steps v s xs
    → ((x : A) (b : Bool) (q : F) → Called g f (x, tt) b q → (q ≡ f) × (b ≡ p (v x)))
    → IfBelow (least (λ j. p (get_or xs j d)) (length xs)) (length xs) r
found-of_position p xs d u f r ran road computes =
    let e : position_or_len p xs ≡ least (λ j. p (get_or xs j d)) (length xs) =
    rw (take_all (length xs) xs (omega arith)) at (place-least p xs d (length xs) (omega arith)) in
    rw (← e, position_from_yields_List p u f r ran road computes)
    (below-test (position_or_len p xs) (length xs) (ltb (position_or_len p xs) (length xs)) refl)
