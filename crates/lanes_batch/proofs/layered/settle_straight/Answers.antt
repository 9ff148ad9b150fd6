-- `lanes_batch::layered::settle_straight` meets its contract: each gate is a layer of its own.
use mathlib.Core.Path.{◌≡◌}
use native.Mathlib.Omega.{arith}
use Rattle.lanes_batch.proofs.Layering.{straight-start, straight-more, straight-fixed}
use Rattle.lanes_batch.proofs.layered.settle_straight.Goals as goal

pub loop-j-init : goal.loop-j-init
loop-j-init c = straight-start _ _ _

pub loop-j-preserved : goal.loop-j-preserved
loop-j-preserved c =
    straight-more _ _ c.requires c.args.graph.legal c.loop-j-test.true c.loop-j.invariant
    (rw (c.gate.ensures.0, c.gate.ensures.1) at c.evaluate.ensures)

pub returns : goal.returns
returns c =
    let all : c.loop-j.j ≡ c.args.graph.gates = omega arith in
    straight-fixed _ _ c.requires (rw all at c.loop-j.invariant)
