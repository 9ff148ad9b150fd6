-- `op_line::line_start` meets its contract. The loop goes down from the part that has the LF; its invariant: the start
-- among the first i bytes is the start.
use mathlib.Core.Path.{◌≡◌}
use Rattle.netlist.specs.Line.{start_before, line_start}
use Rattle.op_line.proofs.line_start.Given as goal

abbrev pub invariant-loop-i : goal.invariant-loop-i
invariant-loop-i l = line_start l.text l.place ≡ start_before l.text l.i
