-- The words of specs/Words.antt of a miter as one value. Cited by the contracts of `miter`. Assumes nothing.
--   output_total                    how many outputs the block has
--   shown_of                        the word of the node listed for an output
--   differing_of, differing_below   the lanes at which an output differs, or one of the first outputs
--   differs_in                      the output's bit of one lane
--   MarksIn                         a word with the lanes at which block and cells disagree
use Rattle.std.specs.Prelude.{ℕ, Bool, get_or}
use Rattle.op_compare_cells.specs.declared.miter.Miter.{Miter}
use Rattle.op_compare_cells.specs.Words.{shown_word, differing_word, differing_words, differs_at, Marks}

abbrev pub output_total : Miter → ℕ
output_total m = get_or m.batch.words.now 2 0

abbrev pub shown_of : Miter → ℕ → ℕ
shown_of m o = shown_word m.batch.words.now m.shown.now m.nodes.now o

abbrev pub differing_of : Miter → ℕ → ℕ
differing_of m o = differing_word m.batch.words.now m.shown.now m.batch.lanes.now m.nodes.now o

abbrev pub differing_below : Miter → ℕ → ℕ
differing_below m o = differing_words m.batch.words.now m.shown.now m.batch.lanes.now m.nodes.now o

abbrev pub differs_in : Miter → ℕ → ℕ → Bool
differs_in m lane o = differs_at m.batch.words.now m.shown.now m.batch.lanes.now m.nodes.now lane o

abbrev pub MarksIn : Miter → ℕ → Type 0
MarksIn m word = Marks m.batch.words.now m.shown.now m.batch.base m.nodes.now word
