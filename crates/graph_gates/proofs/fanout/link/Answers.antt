-- `graph_gates::fanout::link` meets its contract: the two words that it writes are those of `Linked`.
use borrow.Author.Rules.{rules}
use borrow.Author.Tests.{tests}
use native.Mathlib.Omega.{arith}
use Rattle.graph_gates.specs.Fanout.{slot_place}
use Rattle.graph_gates.proofs.fanout.link.Goals as goal

pub bounds-fanout-k : goal.bounds-fanout-k
unfolding slot_place
bounds-fanout-k c = omega (arith, c.requires.inside)

pub bounds-fanout-k-then-place-ge-FIRST_GATE : goal.bounds-fanout-k-then-place-ge-FIRST_GATE
unfolding slot_place
bounds-fanout-k-then-place-ge-FIRST_GATE c = omega (arith, c.requires.inside)

pub returns-then-place-ge-FIRST_GATE : goal.returns-then-place-ge-FIRST_GATE
unfolding slot_place
returns-then-place-ge-FIRST_GATE c = search (rules, tests)

pub returns-else-place-ge-FIRST_GATE : goal.returns-else-place-ge-FIRST_GATE
unfolding slot_place
returns-else-place-ge-FIRST_GATE c = search (rules, tests)
