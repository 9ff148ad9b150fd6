-- `lanes_batch::layered::Circuit::settle_run` meets its contract: a loop reads nothing behind it, and a gate on no loop reads
-- only gates before it, so each turn settles one layer more.
use mathlib.Core.Path.{◌∙◌}
use Prim.Native.Nat.{◌+◌}
use Rattle.lanes_batch.specs.Circuit.{CircuitSettled}
use Rattle.lanes_batch.proofs.Layering.{reached-one, reached-loop}
use Rattle.lanes_batch.proofs.layered.Circuit.settle_run.Goals.{After-evaluate}
use Rattle.lanes_batch.proofs.layered.Circuit.settle_run.Goals as goal

-- one layer more
more : (c : After-evaluate)
    → CircuitSettled c.args.self.now c.loop-k.k c.loop-k.lanes c.evaluate.new.lanes (c.loop-k.k + 1)
more c =
    reached-one c.requires.0 c.loop-k.k c.args.self.now.graph.legal c.loop-k-test.true c.if-self-k.false c.loop-k.invariant.0
    (rw (c.gate.ensures.0, c.gate.ensures.1) at c.evaluate.ensures)

pub returns-then-end-i : goal.returns-then-end-i
returns-then-end-i c =
    reached-loop c.requires.0 c.args.i c.requires.1 c.if-end-i.true c.requires.2 c.settle_loop.ensures

pub loop-k-preserved : goal.loop-k-preserved
loop-k-preserved c =
    let e = more (goal.at.loop-k-preserved c).After-evaluate in
    (e.reached, e.inputs_kept ∙ c.loop-k.invariant.1)
