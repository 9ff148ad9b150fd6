-- Facts on lists and sums that are nobody's in particular. Assumes nothing.
use Prim.Native.Nat.{ℕ, zero, suc}
use mathlib.Core.Path.{◌≡◌, refl, ap}
use mathlib.Core.List.{List, [], ◌∷◌, map}
use mathlib.Core.Bool.{Bool, true, false, ◌||◌}
use lib.ListN.{take}
use Rattle.prelude.specs.Lists.{all}
use Rattle.prelude.proofs.Tests.{and_left, and_right, and_intro}

module _ {A B : Type 0} where
  pub take-map : (g : A → B) (i : ℕ) (xs : List A) → take i (map g xs) ≡ map g (take i xs)
  take-map g zero xs = refl
  take-map g (suc i) [] = refl
  take-map g (suc i) (x ∷ xs) = ap {B = List B} (λ r. g x ∷ r) (take-map g i xs)

pub all_take : {A : Type 0} (p : A → Bool) (i : ℕ) (xs : List A) → all p xs ≡ true → all p (take i xs) ≡ true
all_take p zero xs h = refl
all_take p (suc i) [] h = refl
all_take p (suc i) (x ∷ xs) h =
    and_intro (p x) (all p (take i xs)) (and_left (p x) (all p xs) h) (all_take p i xs (and_right (p x) (all p xs) h))

pub or_swap : (a b : Bool) → a || b ≡ b || (a || false)
or_swap true true = refl
or_swap true false = refl
or_swap false true = refl
or_swap false false = refl
