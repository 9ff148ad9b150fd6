-- A set of gates as words of 64 bits. Assumes nothing.
use Rattle.std.specs.Prelude.{ℕ, ◌/◌, ◌%◌, ◌≡◌, Bool, not, ◌&&◌, ◌||◌, List, get_or, eqb}
use Rattle.lanes_dual_rail.specs.Words.{has_lane}

-- the code's ready::WORD_BITS
abbrev pub word_bits : ℕ
word_bits = 64

unfoldable pub in_set : List ℕ → ℕ → Bool
in_set ready l = has_lane (get_or ready (l / word_bits) 0) (l % word_bits)

-- the set with gate l added, and the set without it
abbrev pub Added : ℕ → List ℕ → List ℕ → Type 0
Added l ready ready' = (i : ℕ) → in_set ready' i ≡ in_set ready i || eqb i l

abbrev pub Removed : ℕ → List ℕ → List ℕ → Type 0
Removed l ready ready' = (i : ℕ) → in_set ready' i ≡ in_set ready i && not (eqb i l)
