-- `graph_gates::fanout::link_slots` meets its contract: the slots below `e` are in their lists (`linking-next`).
use Rattle.graph_gates.specs.Fanout.{Linking}
use Rattle.graph_gates.proofs.fanout.link_slots.Given as goal

abbrev pub invariant-loop-e : goal.invariant-loop-e
invariant-loop-e l = Linking l.graph.words.now l.fanout l.e
