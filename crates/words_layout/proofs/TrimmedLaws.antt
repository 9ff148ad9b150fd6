-- Bytes without the zeros at their end, found from the end. Cited by `trim::trimmed_length`. Assumes nothing.
use Prim.Native.Nat.{ℕ, suc, ◌-◌, ◌≤◌, ◌<◌}
use mathlib.Core.Path.{◌≡◌, refl, ap, ◌∙◌}
use mathlib.Core.List.{List, [], ◌∷◌, ◌++◌}
use native.Mathlib.Omega.{arith}
use lib.ListN.{length, take, get_or}
use lib.Seq.{take-suc}
use borrow.Author.Tests.{ne_eqb}
use Rattle.prelude.specs.Lists.{trimmed, onto}

-- a zero at the end
trimmed-zero : (xs : List ℕ) → trimmed (xs ++ (0 ∷ [])) ≡ trimmed xs
trimmed-zero [] = refl
trimmed-zero (x ∷ xs) = ap (onto x) (trimmed-zero xs)

onto-append : (x : ℕ) (xs : List ℕ) (y : ℕ) → onto x (xs ++ (y ∷ [])) ≡ x ∷ (xs ++ (y ∷ []))
onto-append x [] y = refl
onto-append x (z ∷ xs) y = refl

-- another byte at the end
trimmed-last : (xs : List ℕ) (x : ℕ) → (x ≡ 0 → ⊥) → trimmed (xs ++ (x ∷ [])) ≡ xs ++ (x ∷ [])
trimmed-last [] x h = rw (ne_eqb x 0 h) refl
trimmed-last (y ∷ xs) x h = ap (onto y) (trimmed-last xs x h) ∙ onto-append y xs x

module _ (bytes : List ℕ) (count : ℕ) (positive : 0 < count) (fits : count ≤ length bytes) where
  last : take count bytes ≡ take (count - 1) bytes ++ (get_or bytes (count - 1) 0 ∷ [])
  last =
      let e : count ≡ suc (count - 1) = omega arith in
      ap (λ (k : ℕ). take k bytes) e ∙ take-suc bytes (count - 1) 0 (omega arith)

  -- one byte fewer
  pub trimmed-shorter : get_or bytes (count - 1) 0 ≡ 0 → trimmed (take count bytes) ≡ trimmed (take (count - 1) bytes)
  trimmed-shorter h = rw (last, h) (trimmed-zero (take (count - 1) bytes))

  -- found
  pub trimmed-here : (get_or bytes (count - 1) 0 ≡ 0 → ⊥) → trimmed (take count bytes) ≡ take count bytes
  trimmed-here h = rw last (trimmed-last (take (count - 1) bytes) (get_or bytes (count - 1) 0) h)
