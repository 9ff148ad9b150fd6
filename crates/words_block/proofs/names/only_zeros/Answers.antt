-- `words_block::names::only_zeros` meets its contract: the bytes passed are zero, so the rest decides.
use Rattle.words_block.proofs.NameLaws.{rest_end}
use Rattle.words_block.proofs.names.only_zeros.Goals as goal

pub returns : goal.returns
returns c = rest_end c.loop-j.invariant c.loop-j-test.false
