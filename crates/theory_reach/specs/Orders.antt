-- Lists of numbers in which none stands twice, and ascending ones. Assumes nothing.
use Rattle.std.specs.Prelude.{ℕ, ◌<◌, ◌≡◌, true, false, List, [], ◌∷◌}
use Rattle.prelude.specs.Lists.{member}

-- no number stands twice
abbrev pub Once : List ℕ → Type 0
Once [] = Unit
Once (x ∷ xs) = (member x xs ≡ false) × Once xs

-- every number is below those behind it
abbrev pub Ascending : List ℕ → Type 0
Ascending [] = Unit
Ascending (x ∷ xs) = ((y : ℕ) → member y xs ≡ true → x < y) × Ascending xs
