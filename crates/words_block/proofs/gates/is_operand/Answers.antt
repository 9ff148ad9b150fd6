-- `words_block::gates::is_operand` meets its contract: each way out is one side of the rule's disjunctions.
use mathlib.Core.Path.{sym, ◌∙◌}
use borrow.Author.Tests.{eq-eqb, ne_eqb}
use Rattle.theory_encoding.specs.Rules.{operand_rule}
use Rattle.words_block.proofs.gates.is_operand.Goals as goal

pub returns-then-is_node : goal.returns-then-is_node
unfolding operand_rule
returns-then-is_node c = rw (sym c.is_node.ensures ∙ c.if-is_node.true)

pub returns-then-word-eq-CONSTANT_0 : goal.returns-then-word-eq-CONSTANT_0
unfolding operand_rule
returns-then-word-eq-CONSTANT_0 c = rw (sym c.is_node.ensures ∙ c.if-is_node.false, eq-eqb _ 65534 c.if-word-eq-CONSTANT_0.true)

pub returns-else-word-eq-CONSTANT_0 : goal.returns-else-word-eq-CONSTANT_0
unfolding operand_rule
returns-else-word-eq-CONSTANT_0 c = rw (sym c.is_node.ensures ∙ c.if-is_node.false, ne_eqb _ 65534 c.if-word-eq-CONSTANT_0.false)
