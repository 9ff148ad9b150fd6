-- `graph_gates::slot_place` meets its contract: an operand's own place, or the constant behind the last operand.
use borrow.Author.Rules.{rules}
use borrow.Author.Tests.{tests}
use Rattle.graph_gates.specs.Decoding.{word_place}
use Rattle.graph_gates.proofs.slot_place.Goals as goal

pub returns-then-i-word_in : goal.returns-then-i-word_in
unfolding word_place
returns-then-i-word_in c = search (rules, tests)

pub returns : goal.returns
unfolding word_place
returns c = search (rules, tests)
