-- `op_line::skip_before` meets its contract: a part without an LF does not change where the line starts.
use mathlib.Core.Path.{◌≡◌}
use Prim.Native.Nat.{◌≤◌}
use lib.ListN.{length}
use Rattle.netlist.specs.Line.{start_before}
use Rattle.op_line.proofs.skip_before.Given as goal

abbrev pub invariant-loop-start : goal.invariant-loop-start
invariant-loop-start l = (l.start ≤ length l.text) × (start_before l.text l.at ≡ start_before l.text l.start)

abbrev pub decreases-loop-start : goal.decreases-loop-start
decreases-loop-start l = l.start
