-- `graph_gates::decode_gates` meets its contract: gate after gate is put.
use Rattle.graph_gates.specs.Decoding.{Putting}
use Rattle.graph_gates.proofs.decode_gates.Given as goal

abbrev pub invariant-loop-j : goal.invariant-loop-j
invariant-loop-j l = Putting l.block.words.now l.nodes l.j l.graph
