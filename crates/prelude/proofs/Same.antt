-- The test whether two lists of numbers are the same says so.
--   same-eq, eq-same, same_refl   the test and equality
-- Assumes nothing.
use mathlib.Core.Path.{◌≡◌, refl, ap₂}
use mathlib.Core.Bool.{true, false≢true}
use mathlib.Core.List.{List, [], ◌∷◌}
use Prim.Native.Nat.{ℕ}
use lib.Dec.{eqb}
use borrow.Author.Tests.{eqb-true, eq-eqb}
use Rattle.prelude.specs.Lists.{same}
use Rattle.prelude.proofs.Tests.{and_left, and_right, and_intro}

pub same-eq : (xs ys : List ℕ) → same xs ys ≡ true → xs ≡ ys
same-eq [] [] h = refl
same-eq [] (y ∷ ys) h = absurd (false≢true h)
same-eq (x ∷ xs) [] h = absurd (false≢true h)
same-eq (x ∷ xs) (y ∷ ys) h =
    ap₂ ◌∷◌ (eqb-true x y (and_left (eqb x y) (same xs ys) h)) (same-eq xs ys (and_right (eqb x y) (same xs ys) h))

pub same_refl : (xs : List ℕ) → same xs xs ≡ true
same_refl [] = refl
same_refl (x ∷ xs) = and_intro (eqb x x) (same xs xs) (eq-eqb x x refl) (same_refl xs)

pub eq-same : (xs ys : List ℕ) → xs ≡ ys → same xs ys ≡ true
eq-same xs ys e = rw e (same_refl ys)
