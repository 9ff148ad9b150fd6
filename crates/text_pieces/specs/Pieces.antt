-- The pieces that the functions append, each as the words of the block give it.
use Rattle.std.specs.Prelude.{ℕ, ◌+◌, ◌/◌, ◌%◌, ◌≤◌, ◌≡◌, cond, List, [], ◌∷◌, ◌++◌, length, get_or, ltb}
use Rattle.std.proofs.lemmas.List.Edits.{sets}
use Rattle.prelude.specs.Lists.{ascii, tab, joined}
use Rattle.netlist.specs.StoredBlock.{name_at, operand_of, decode}
use Rattle.netlist.specs.Syntax.{print_term}
use Rattle.netlist.specs.Writing.{term_of}
use Rattle.words_layout.specs.Bounds.{max_word}

-- A text and its end after a piece was appended at `at`. What does not fit is left out, and counted all the same.
pub record Appended (piece text : List ℕ) (at : ℕ) (text' : List ℕ) (end : ℕ) : Type 0 where
  pub text_is : text' ≡ sets text at piece
  pub end_is : end ≡ at + length piece

-- a piece appended at `at` leaves the end a small number, so that no addition overflows
pub record Short (piece : List ℕ) (at : ℕ) : Type 0 where
  pub small : at + length piece ≤ max_word

-- f 0, f 1, .., f (count - 1), one after the other
unfoldable pub pieces : (ℕ → List ℕ) → ℕ → List ℕ
pieces f count = joined (tab f count)

-- the text of the operand whose word is at `at`
unfoldable pub operand_text : List ℕ → ℕ → List ℕ
operand_text ws at = print_term (term_of (decode ws) (operand_of (get_or ws 0 0) (get_or ws at 0))) []

-- the decimal digit of v that counts `unit`s, where v has one
unfoldable pub digit_at : ℕ → ℕ → List ℕ
digit_at v unit = cond (ltb v unit) [] ((48 + v / unit % 10) ∷ [])

-- ` (NAME VALUE)`: the name whose words are at `at`, and the byte of its value
unfoldable pub pair_piece : List ℕ → ℕ → ℕ → List ℕ
pair_piece ws at byte = ascii " (" ++ (name_at ws at ++ (ascii " " ++ (byte ∷ ascii ")")))
