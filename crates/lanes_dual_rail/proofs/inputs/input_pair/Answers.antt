-- `lanes_dual_rail::inputs::input_pair` meets its contract.
use borrow.Author.Rules.{rules}
use Rattle.lanes_dual_rail.specs.Batches.{input_pair}
use Rattle.lanes_dual_rail.proofs.inputs.input_pair.Goals as goal

pub returns : goal.returns
unfolding input_pair
returns c = rw (c.pattern_of.ensures, c.used_lanes-used.ensures)
