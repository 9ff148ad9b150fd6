-- `words_block::gates::is_node` meets its contract: the test is the rule.
use mathlib.Core.Path.{refl}
use Rattle.theory_encoding.specs.Rules.{node_rule}
use Rattle.words_block.proofs.gates.is_node.Goals as goal

pub returns : goal.returns
unfolding node_rule
returns c = refl
