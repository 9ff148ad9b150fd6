-- `op_line::line_length` meets its contract: the ends lie in order.
use native.Mathlib.Omega.{arith}
use Rattle.netlist.specs.Line.{line_length}
use Rattle.op_line.proofs.Ends.{ends-in-order}
use Rattle.op_line.proofs.line_length.Goals as goal

pub overflow_sub-result : goal.overflow_sub-result
overflow_sub-result c =
    let s = c in
    omega (arith, ends-in-order s.args.text.now s.args.place, c.line_end.ensures, s.requires)

pub returns : goal.returns
unfolding line_length
returns c = rw (c.line_end.ensures, c.requires)
