-- `unroll_depth::group::more_passes` meets its contract: each turn makes a pass that some setting needs.
use Prim.Native.Nat.{◌+◌, ◌-◌}
use Rattle.netlist.specs.Limits.{max_copies}
use Rattle.unroll_depth.proofs.PassLaws.{Passing}
use Rattle.unroll_depth.proofs.group.more_passes.Given as goal

abbrev pub invariant-loop-total : goal.invariant-loop-total
invariant-loop-total l =
    Passing l.words l.group.members.now l.group.turn l.initial.passes l.initial.total l.initial.lanes l.lanes l.passes l.total

abbrev pub decreases-loop-total : goal.decreases-loop-total
decreases-loop-total l = max_copies + 1 - l.total
