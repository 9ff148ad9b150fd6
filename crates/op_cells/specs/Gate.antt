-- The words of specs/Made.antt of a gate as one value. Cited by the contracts of `make`. Assumes nothing.
--   word_of, put_of        a word of the gate's cell; the words with that cell at a place
use Rattle.std.specs.Prelude.{ℕ, List}
use Rattle.op_cells.specs.declared.make.Gate.{Gate}
use Rattle.op_cells.specs.Made.{cell_word_at, cell_put}

abbrev pub word_of : Gate → ℕ → ℕ
word_of g i = cell_word_at g.words.now g.at i

abbrev pub put_of : Gate → ℕ → List ℕ → List ℕ
put_of g to cells = cell_put g.words.now g.at to cells
