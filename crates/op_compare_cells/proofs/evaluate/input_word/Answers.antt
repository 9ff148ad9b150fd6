-- `op_compare_cells::evaluate::input_word` meets its contract: the input's pattern at the lanes in use.
use borrow.Author.Tests.{lt-ltb, le-ltb}
use Rattle.op_compare_cells.specs.CellLanes.{input_word}
use Rattle.op_compare_cells.proofs.evaluate.input_word.Goals as goal

pub returns-then-i-n : goal.returns-then-i-n
unfolding input_word
returns-then-i-n c =
    let asked = c in
    rw (lt-ltb _ _ asked.if-i-n.true, ← c.used_lanes.ensures, ← asked.pattern_of.ensures)

pub returns : goal.returns
unfolding input_word
returns c = rw (le-ltb _ _ c.if-i-n.false)
