-- `words_block::gates::is_operand_word` meets its contract: one comparison tests both sides of the rule
-- (`operand-word`).
use borrow.Author.Rules.{rules}
use native.Mathlib.Omega.{arith}
use Rattle.words_block.proofs.GateLaws.{operand-word}
use Rattle.words_block.proofs.gates.is_operand_word.Goals as goal

pub returns : goal.returns
returns c = operand-word c.args.nodes c.args.word (search rules) (omega arith)
