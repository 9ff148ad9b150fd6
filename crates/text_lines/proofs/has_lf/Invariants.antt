-- `text_lines::has_lf` meets its contract: where nothing was found, no byte passed is an LF.
use mathlib.Core.Path.{◌≡◌}
use mathlib.Core.Bool.{false}
use Prim.Native.Nat.{◌≤◌}
use Rattle.text_lines.specs.Lines.{NoLf}
use Rattle.text_lines.proofs.has_lf.Given as goal

abbrev pub invariant-loop-i : goal.invariant-loop-i
invariant-loop-i l = (l.i ≤ 16) × (l.found ≡ false → NoLf l.s l.at l.i)
