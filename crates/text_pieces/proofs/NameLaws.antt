-- The eight bytes of a name from its four words. Cited by `name_bytes`. Assumes nothing.
use Prim.Native.Nat.{ℕ, ◌+◌, ◌/◌, ◌%◌}
use mathlib.Core.Path.{◌≡◌, refl}
use mathlib.Core.List.{List, [], ◌∷◌}
use native.Mathlib.Nat.{add-zero}
use lib.ListN.{get_or}
use Rattle.netlist.specs.StoredBlock.{bytes_at}

pub bytes-of-words : (ws : List ℕ) (at a b c d : ℕ) → a ≡ get_or ws at 0 → b ≡ get_or ws (at + 1) 0 → c ≡ get_or ws (at + 2) 0
    → d ≡ get_or ws (at + 3) 0
    → a % 256 ∷ a / 256 ∷ b % 256 ∷ b / 256 ∷ c % 256 ∷ c / 256 ∷ d % 256 ∷ d / 256 ∷ [] ≡ bytes_at ws at
unfolding bytes_at
bytes-of-words ws at a b c d p q r s =
    let first : a ≡ get_or ws (at + 0) 0 = rw (add-zero) p in
    rw (first, q, r, s) refl
