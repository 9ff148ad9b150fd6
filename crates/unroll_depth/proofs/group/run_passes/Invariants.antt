-- `unroll_depth::group::run_passes` meets its contract: after p turns p passes are made.
use Rattle.prelude.specs.Lists.{repeated}
use Rattle.unroll_depth.specs.Passes.{Ran}
use Rattle.unroll_depth.specs.Group.{gates_listed}
use Rattle.unroll_depth.proofs.group.run_passes.Given as goal

abbrev pub invariant-loop-p : goal.invariant-loop-p
invariant-loop-p l =
    Ran l.graph (repeated l.p (gates_listed l.group)) l.initial.lanes l.lanes
