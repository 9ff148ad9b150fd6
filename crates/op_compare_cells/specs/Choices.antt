-- A choice among the bits of a truth word, at each lane of a batch. Cited by the contracts of `choice`. Assumes
-- nothing.
--   choice_word    at each lane one of two words' bits
--   two_word, four_word, cell_word   of two, of four and of all sixteen bits the one that one, two and four operands
--                                 choose
use Rattle.std.specs.Prelude.{ℕ, ◌+◌, ◌/◌, ◌%◌, ◌^◌, [], ◌∷◌, get_or}
use Rattle.std.specs.Int.Bits.{bit_and, bit_xor}

unfoldable pub choice_word : ℕ → ℕ → ℕ → ℕ
choice_word low high by = bit_xor low (bit_and (bit_xor low high) by)

-- the word of two truth bits, at `at` and behind it, of which `a` chooses at each lane: none, the lower, the upper,
-- both; `used` has a bit at each lane in use
unfoldable pub two_word : ℕ → ℕ → ℕ → ℕ → ℕ
two_word used truth a at = get_or (0 ∷ bit_xor used a ∷ a ∷ used ∷ []) (truth / 2 ^ at % 4) 0

unfoldable pub four_word : ℕ → ℕ → ℕ → ℕ → ℕ → ℕ
four_word used truth a b at = choice_word (two_word used truth a at) (two_word used truth a (at + 2)) b

unfoldable pub cell_word : ℕ → ℕ → ℕ → ℕ → ℕ → ℕ → ℕ
cell_word used truth a b c d =
    choice_word (choice_word (four_word used truth a b 0) (four_word used truth a b 4) c)
    (choice_word (four_word used truth a b 8) (four_word used truth a b 12) c) d
