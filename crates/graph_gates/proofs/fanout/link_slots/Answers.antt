-- `graph_gates::fanout::link_slots` meets its contract: the slots below `e` are in their lists (`linking-next`).
use native.Mathlib.Omega.{arith}
use Rattle.graph_gates.proofs.Chains.{linking-next, slot-inside}
use Rattle.graph_gates.proofs.fanout.link_slots.Goals as goal

pub link-requires : goal.link-requires
link-requires c =
    let g = c.args.graph.legal in
    record {
      below = omega (arith, g.few);
      inside = omega (arith, slot-inside g c.loop-e.e c.loop-e-test.true, g.few);
      long = c.loop-e.invariant.long;
    }

pub loop-e-preserved : goal.loop-e-preserved
loop-e-preserved c =
    let g = c.args.graph.legal in
    linking-next c.loop-e.e c.loop-e.invariant (omega (arith, g.few))
    (omega (arith, slot-inside g c.loop-e.e c.loop-e-test.true, g.few)) c.link.ensures
