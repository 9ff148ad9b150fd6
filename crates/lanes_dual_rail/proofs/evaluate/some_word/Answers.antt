-- `lanes_dual_rail::evaluate::some_word` meets its contract.
use Rattle.lanes_dual_rail.specs.LaneWords.{operand_words, some_word}
use Rattle.lanes_dual_rail.proofs.evaluate.some_word.Goals as goal

pub returns : goal.returns
unfolding operand_words some_word
returns c = rw c.operand_words.ensures
