-- `lanes_dual_rail::evaluate::every_word` meets its contract.
use Rattle.lanes_dual_rail.specs.LaneWords.{operand_words, every_word}
use Rattle.lanes_dual_rail.proofs.evaluate.every_word.Goals as goal

pub returns : goal.returns
unfolding operand_words every_word
returns c = rw c.operand_words.ensures
