-- A sum of ones. Assumes nothing.
use mathlib.Core.Path.{◌≡◌, refl}
use mathlib.Core.List.{List, [], ◌∷◌, map}
use native.Mathlib.Omega.{arith}
use lib.ListN.{length}
use Rattle.prelude.specs.Lists.{sum}

module _ {A : Type 0} where
  pub sum_ones : (xs : List A) → sum (map (λ x. 1) xs) ≡ length xs
  sum_ones [] = refl
  sum_ones (x ∷ xs) = let h = sum_ones xs in omega arith
