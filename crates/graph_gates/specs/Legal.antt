-- What a legal graph holds, as one value (src/graph.rt). Cited by the contracts of this crate's users. Assumes nothing.
--   network_of   its gates as a block without names
use Rattle.netlist.specs.Netlist.{Block}
use Rattle.graph_gates.specs.Graph.{network}
use Rattle.graph_gates.specs.declared.graph.GateGraph.{GateGraph}

abbrev pub network_of : GateGraph → Block
network_of g = network g.gates g.words.now
