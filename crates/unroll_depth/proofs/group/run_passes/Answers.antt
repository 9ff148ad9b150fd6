-- `unroll_depth::group::run_passes` meets its contract: after p turns p passes are made.
use native.Mathlib.Numerals.{add-one}
use Rattle.unroll_depth.proofs.GroupLaws.{ran-none, ran_then}
use Rattle.unroll_depth.proofs.group.run_passes.Goals as goal

pub loop-p-init : goal.loop-p-init
loop-p-init c = ran-none c.args.graph.now c.args.lanes.now

pub loop-p-preserved : goal.loop-p-preserved
loop-p-preserved c = rw add-one (ran_then c.loop-p.invariant c.sweep_part.ensures)
