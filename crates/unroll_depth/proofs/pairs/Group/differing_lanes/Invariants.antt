-- `unroll_depth::pairs::Group::differing_lanes` meets its contract: after each turn the lanes of the gates passed are marked.
use mathlib.Core.Bool.{false}
use Rattle.lanes_batch.specs.Layered.{part}
use Rattle.unroll_depth.specs.Pairs.{Differs}
use Rattle.unroll_depth.proofs.pairs.Group.differing_lanes.Given as goal

abbrev pub invariant-loop-i : goal.invariant-loop-i
invariant-loop-i l =
    Differs (part false l.self.members.now l.self.turn.from l.i) l.lanes l.kept l.differing
