-- `lanes_dual_rail::evaluate::operand_words` meets its contract.
use mathlib.Core.Path.{refl}
use Rattle.lanes_dual_rail.specs.LaneWords.{operand_words}
use Rattle.lanes_dual_rail.proofs.evaluate.operand_words.Goals as goal

pub returns : goal.returns
unfolding operand_words
returns c =
    rw (c.operand_word-a.ensures, c.operand_word-b.ensures, c.operand_word-c.ensures, c.operand_word-d.ensures) refl
