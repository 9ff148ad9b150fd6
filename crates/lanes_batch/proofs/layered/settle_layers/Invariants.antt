-- `lanes_batch::layered::settle_layers` meets its contract: layer after layer is settled, and at the end every gate is
-- still.
use mathlib.Core.Path.{◌≡◌}
use Prim.Native.Nat.{◌-◌, ◌≤◌}
use Rattle.lanes_dual_rail.specs.LaneWords.{inputs_in}
use Rattle.lanes_batch.specs.Layered.{Reached}
use Rattle.lanes_batch.proofs.layered.settle_layers.Given as goal

abbrev pub invariant-loop-i : goal.invariant-loop-i
invariant-loop-i l =
    (l.i ≤ l.m) × Reached l.m l.n l.plan.graph l.plan.order l.plan.ends l.i l.lanes × (inputs_in l.lanes ≡ inputs_in l.initial.lanes)

abbrev pub decreases-loop-i : goal.decreases-loop-i
decreases-loop-i l = l.m - l.i
