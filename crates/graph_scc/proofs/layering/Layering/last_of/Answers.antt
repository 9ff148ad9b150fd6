-- `graph_scc::layering::Layering::last_of` meets its contract: a position that ends its layer itself is its last, else the one
-- before the end is.
use borrow.Author.Rules.{rules}
use borrow.Author.Tests.{tests}
use Rattle.graph_scc.specs.Leaders.{last_of}
use Rattle.graph_scc.proofs.layering.Layering.last_of.Goals as goal

pub returns-then-end-i : goal.returns-then-end-i
unfolding last_of
returns-then-end-i c = search (rules, tests)

pub returns-else-end-i : goal.returns-else-end-i
unfolding last_of
returns-else-end-i c = search (rules, tests)
