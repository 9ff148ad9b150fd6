-- `lanes_settings::nevers::excluded_lanes` meets its contract: after i turns the word tells the first i lines.
use Prim.Native.Nat.{◌≤◌}
use lib.ListN.{get_or}
use Rattle.lanes_dual_rail.specs.Batches.{lanes_of}
use Rattle.lanes_dual_rail.specs.Words.{Tells}
use Rattle.lanes_settings.proofs.NeverLaws.{excluded_by}
use Rattle.lanes_settings.proofs.nevers.excluded_lanes.Given as goal

abbrev pub invariant-loop-i : goal.invariant-loop-i
invariant-loop-i l =
    (l.i ≤ l.lines) × Tells (lanes_of (get_or l.words 0 0)) l.base (excluded_by l.words l.i) l.excluded
