-- `graph_scc::closure::Edges::grow` meets its contract: each turn adds a gate, and at the end none can be added.
use Rattle.graph_scc.specs.Closure.{outside}
use Rattle.graph_scc.specs.Edges.{IsGrowing}
use Rattle.graph_scc.proofs.closure.Edges.grow.Given as goal

abbrev pub invariant-loop-t : goal.invariant-loop-t
invariant-loop-t l = IsGrowing l.self l.start l.flags

abbrev pub decreases-loop-t : goal.decreases-loop-t
decreases-loop-t l = outside l.flags l.self.graph.gates
