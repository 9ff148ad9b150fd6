-- `graph_scc::layering::Layering::reads_before` meets its contract: each of the four slots is tested.
use borrow.Author.Rules.{rules}
use Rattle.graph_scc.specs.Search.{SlotBefore}
use Rattle.graph_gates.specs.Graph.{slots}
use Rattle.graph_scc.proofs.Ranges.{each-of_range}
use Rattle.graph_scc.proofs.layering.Layering.reads_before.Goals as goal

pub returns : goal.returns
returns c =
    let a = c.args in
    each-of_range (SlotBefore a.self.now.graph.words.now a.self.now.positions.now a.j a.end) slots c.all.ensures.ran
    (λ x q k. search rules)
