-- `graph_gates::place_of` meets its contract: an input, one of the two constants, or a gate.
use borrow.Author.Rules.{rules}
use borrow.Author.Tests.{tests}
use Rattle.netlist.specs.StoredBlock.{operand_of}
use Rattle.graph_gates.specs.Places.{place_of}
use Rattle.graph_gates.proofs.place_of.Goals as goal

pub returns-then-word-n : goal.returns-then-word-n
unfolding place_of operand_of
returns-then-word-n c = search (rules, tests)

pub returns-in-65534 : goal.returns-in-65534
unfolding place_of operand_of
returns-in-65534 c = search (rules, tests)

pub returns-in-65535 : goal.returns-in-65535
unfolding place_of operand_of
returns-in-65535 c = search (rules, tests)

pub returns-in_default : goal.returns-in_default
unfolding place_of operand_of
returns-in_default c = search (rules, tests)
