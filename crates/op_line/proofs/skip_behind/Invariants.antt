-- `op_line::skip_behind` meets its contract: a part without an LF does not change where the line ends.
use mathlib.Core.Path.{◌≡◌}
use Prim.Native.Nat.{◌≤◌, ◌+◌, ◌-◌}
use lib.ListN.{length, drop}
use Rattle.netlist.specs.Line.{until_lf}
use Rattle.op_line.proofs.skip_behind.Given as goal

abbrev pub invariant-loop-end : goal.invariant-loop-end
invariant-loop-end l = (l.end ≤ length l.text) × (l.at + until_lf (drop l.at l.text) ≡ l.end + until_lf (drop l.end l.text))

abbrev pub decreases-loop-end : goal.decreases-loop-end
decreases-loop-end l = length l.text - l.end
