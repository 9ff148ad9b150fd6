-- `graph_scc::leaders::lead_layers` meets its contract: the first gate with a layer is the lowest of its group.
use Rattle.graph_gates.specs.Graph.{network}
use Rattle.graph_scc.specs.Leaders.{layer_key, LeadingOn}
use Rattle.graph_scc.proofs.leaders.lead_layers.Given as goal

abbrev pub invariant-loop-k : goal.invariant-loop-k
invariant-loop-k l =
    let s = l.layering in
    LeadingOn (network s.graph.gates s.graph.words.now) s.graph.gates (layer_key s.ends.now s.positions.now) l.k l.firsts l.leaders
