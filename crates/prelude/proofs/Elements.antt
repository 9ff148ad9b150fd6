-- Elements of a list that is read with a default, and the rest of a list.
--   get_d-defaults   inside a list the default does not matter
--   rest-is-drop    a slice's rest
--   byte-there      a byte that is not the default is there
-- Assumes nothing.
use mathlib.Core.Path.{◌≡◌, refl}
use mathlib.Core.List.{List, [], ◌∷◌}
use Prim.Native.Nat.{ℕ, zero, suc, ◌-◌, ◌<◌}
use native.Mathlib.Nat.{not-suc-le-zero, le_of_suc-le-suc, le_of_eq}
use native.Mathlib.Omega.{arith}
use lib.ListN.{length, get_or, take, drop, length-drop}
use lib.Seq.{take_all}

module _ {A : Type 0} where
  -- inside a list the default does not matter
  pub get_d-defaults : (xs : List A) (i : ℕ) (d e : A) → i < length xs → get_or xs i d ≡ get_or xs i e
  get_d-defaults [] i d e h = absurd (not-suc-le-zero h)
  get_d-defaults (x ∷ xs) zero d e h = refl
  get_d-defaults (x ∷ xs) (suc i) d e h = get_d-defaults xs i d e (le_of_suc-le-suc h)

  -- the part from k to the end
  pub rest-is-drop : (xs : List A) (k : ℕ) → take (length xs - k) (drop k xs) ≡ drop k xs
  rest-is-drop xs k = take_all (length xs - k) (drop k xs) (le_of_eq (length-drop k xs))

-- a first number that is not 0, read with 0 past the end, is there
pub byte-there : (s : List ℕ) {b c : ℕ} → b ≡ get_or s 0 0 → b ≡ c → 0 < c → 0 < length s
byte-there [] e f h = omega arith
byte-there (x ∷ s) e f h = omega arith
