-- `lanes_dual_rail::evaluate::operand_word` meets its contract.
use Rattle.lanes_dual_rail.specs.LaneWords.{operand_word}
use Rattle.lanes_dual_rail.proofs.evaluate.operand_word.Goals as goal

pub returns : goal.returns
unfolding operand_word
returns c = rw c.place.ensures.0
