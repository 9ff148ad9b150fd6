-- `graph_scc::leaders::lead_layers` meets its contract: the first gate with a layer is the lowest of its group.
use native.Mathlib.Omega.{arith}
use Rattle.graph_gates.proofs.Network.{network-count}
use Rattle.graph_scc.proofs.Certificate.{keyed}
use Rattle.graph_scc.proofs.Leader.{leading-on}
use Rattle.graph_scc.proofs.leaders.lead_layers.Goals as goal

pub first_of-requires : goal.first_of-requires
first_of-requires c =
    let few = c.requires.layered.legal.few in
    let key = (keyed c.requires).below c.loop-k.k c.loop-k-test.true in
    (rw c.last_of-key.ensures.0 (omega arith), omega arith)

pub loop-k-preserved : goal.loop-k-preserved
loop-k-preserved c =
    leading-on (network-count c.args.layering.now.graph.gates c.args.layering.now.graph.words.now) c.requires.layered.legal.few (keyed c.requires)
    c.loop-k-test.true c.loop-k.invariant (rw c.last_of-key.ensures.0 at c.first_of.ensures)
