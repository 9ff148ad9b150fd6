-- `graph_gates::graph::GateGraph::gate` meets its contract: each gate of a legal graph is legal.
use native.Mathlib.Omega.{arith}
use Rattle.graph_gates.proofs.Network.{node-wider}
use Rattle.graph_gates.proofs.graph.GateGraph.gate.Goals as goal

pub invariant_of-result : goal.invariant_of-result
invariant_of-result c =
    let g = c.args.self.legal in
    record { below = omega (arith, c.requires, g.few); legal = node-wider g.few (g.node _ c.requires) }
