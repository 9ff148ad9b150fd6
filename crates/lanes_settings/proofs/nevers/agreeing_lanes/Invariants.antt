-- `lanes_settings::nevers::agreeing_lanes` meets its contract: after i turns the word tells the first i inputs.
use Prim.Native.Nat.{◌≤◌}
use Rattle.netlist.specs.Assignments.{agrees}
use Rattle.lanes_dual_rail.specs.Batches.{lanes_of}
use Rattle.lanes_dual_rail.specs.Words.{Tells}
use Rattle.lanes_settings.proofs.nevers.agreeing_lanes.Given as goal

abbrev pub invariant-loop-i : goal.invariant-loop-i
invariant-loop-i l =
    (l.i ≤ l.n) × Tells (lanes_of l.n) l.base (agrees l.i (record { fixed = l.fixed; ones = l.values })) l.agreeing
