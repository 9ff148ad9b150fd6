-- `text_lines::counts::count_behind` meets its contract: what was counted and what is left to count are the whole
-- count.
use Prim.Native.Nat.{◌+◌, ◌-◌, ◌≤◌}
use mathlib.Core.Path.{◌≡◌}
use lib.ListN.{drop}
use Rattle.text_lines.specs.Counting.{times_behind}
use Rattle.text_lines.proofs.counts.count_behind.Given as goal

abbrev pub invariant-loop-i : goal.invariant-loop-i
invariant-loop-i l = record { some : 1 ≤ l.i; counts : l.n + times_behind l.a l.b (drop (l.i - 1) l.s) ≡ times_behind l.a l.b l.s }
