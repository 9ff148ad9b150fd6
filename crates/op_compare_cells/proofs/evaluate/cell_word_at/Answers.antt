-- `op_compare_cells::evaluate::cell_word_at` meets its contract: the words at the cell's four places, and its truth
-- word.
use mathlib.Core.Path.{refl}
use native.Mathlib.Nat.{add-zero}
use Rattle.op_compare_cells.specs.CellLanes.{operand_word, cell_word_at}
use Rattle.op_compare_cells.proofs.evaluate.cell_word_at.Goals as goal

pub returns : goal.returns
unfolding cell_word_at operand_word
returns c =
    let fourth = c in
    let second = fourth in
    rw (
      c.cell_word.ensures,
      fourth.operand_word-d.ensures,
      fourth.operand_word-c.ensures,
      second.operand_word-b.ensures,
      second.operand_word-a.ensures,
      add-zero,
    ) refl
