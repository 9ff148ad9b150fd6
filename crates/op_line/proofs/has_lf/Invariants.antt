-- `op_line::has_lf` meets its contract: where nothing was found, no byte passed is an LF.
use mathlib.Core.Path.{◌≡◌}
use mathlib.Core.Bool.{false}
use Rattle.op_line.proofs.Ends.{NoLf}
use Rattle.op_line.proofs.has_lf.Given as goal

abbrev pub invariant-loop-i : goal.invariant-loop-i
invariant-loop-i l = l.found ≡ false → NoLf l.text l.at l.i
