-- Linear searches in a table of names as numbers.
use Rattle.std.specs.Prelude.{ℕ, ◌≤◌, ◌<◌, ◌≡◌, Bool, false, List, get_or, eqb, ltb, Option, MatchOption}
use Rattle.prelude.specs.Lists.{least}

-- name j of the table is this one
unfoldable pub is_at : List ℕ → ℕ → ℕ → Bool
is_at names name j = eqb (get_or names j 0) name

-- the first of `count` names that is this one, or `count`
unfoldable pub index_of : List ℕ → ℕ → ℕ → ℕ
index_of names count name = least (is_at names name) count

-- name i is one of those before it
unfoldable pub repeats_at : List ℕ → ℕ → Bool
repeats_at names i = ltb (index_of names i (get_or names i 0)) i

-- i of n numbers are tested, and none of them passes
pub record Sought (p : ℕ → Bool) (n i : ℕ) : Type 0 where
  pub within : i ≤ n
  pub none : (j : ℕ) → j < i → p j ≡ false

-- i of n numbers are the first to be tested, and i passes; or all n are tested, and none of them does
abbrev pub SoughtTo : (ℕ → Bool) → ℕ → Option ℕ → Type 0
SoughtTo p n r = MatchOption r (Sought p n n) (λ i. (i < n) × Sought p n i)
