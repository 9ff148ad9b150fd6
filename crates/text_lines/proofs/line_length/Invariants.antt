-- `text_lines::line_length` meets its contract: the bytes passed and the rest of the line are the line.
use Prim.Native.Nat.{◌+◌, ◌≤◌}
use mathlib.Core.Path.{◌≡◌}
use lib.ListN.{length, drop}
use Rattle.text_lines.specs.Lines.{length_with_lf}
use Rattle.text_lines.proofs.line_length.Given as goal

abbrev pub invariant-loop-i : goal.invariant-loop-i
invariant-loop-i l = (l.i ≤ length l.s) × (l.i + length_with_lf (drop l.i l.s) ≡ length_with_lf l.s)
