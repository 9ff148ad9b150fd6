-- `lanes_batch::layered::Circuit::settle_loop` meets its contract: each sweep that goes on defines a lane more.
use mathlib.Core.Bool.{false}
use Rattle.lanes_batch.specs.Circuit.{Advanced, room_of}
use Rattle.lanes_batch.proofs.layered.Circuit.settle_loop.Given as goal

abbrev pub invariant-loop-back : goal.invariant-loop-back
invariant-loop-back l = Advanced l.self l.from l.end l.initial.lanes l.lanes false

abbrev pub decreases-loop-back : goal.decreases-loop-back
decreases-loop-back l = room_of l.self l.lanes
