-- `op_line::line` meets its contract: the part between the two ends, which lie in order inside the text.
use native.Mathlib.Omega.{arith}
use mathlib.Core.Path.{refl}
use Rattle.netlist.specs.Line.{line_length, line_at}
use Rattle.op_line.proofs.Ends.{ends-in-order, end-inside}
use Rattle.op_line.proofs.line.Goals as goal

pub slice_bounds-result-count : goal.slice_bounds-result-count
slice_bounds-result-count c = let a = c.args in
    omega (arith, ends-in-order a.text.now a.place, c.line_start-start.ensures, c.line_end-end.ensures)

pub slice_bounds-result-start : goal.slice_bounds-result-start
slice_bounds-result-start c = let a = c.args in
    omega (arith, ends-in-order a.text.now a.place, c.line_start-start.ensures, c.line_end-end.ensures)

pub slice_bounds-result-end : goal.slice_bounds-result-end
slice_bounds-result-end c = let a = c.args in
    omega (arith, end-inside a.text.now a.place, c.line_end-end.ensures)

pub returns : goal.returns
unfolding line_at line_length
returns c =
    let s = c.line_start-start.ensures in
    record {
      holds = rw (s, c.line_end-end.ensures);
      stands = (refl, omega (arith, s));
    }
