-- `text_lines::skip_parts` meets its contract: a part without an LF and what is left of the line are the line.
use mathlib.Core.Path.{◌≡◌}
use Prim.Native.Nat.{◌≤◌, ◌+◌, ◌-◌}
use lib.ListN.{length, drop}
use Rattle.text_lines.specs.Lines.{length_with_lf}
use Rattle.text_lines.proofs.skip_parts.Given as goal

abbrev pub invariant-loop-i : goal.invariant-loop-i
invariant-loop-i l = (l.i ≤ length l.s) × (l.i + length_with_lf (drop l.i l.s) ≡ length_with_lf l.s)

abbrev pub decreases-loop-i : goal.decreases-loop-i
decreases-loop-i l = length l.s - l.i
