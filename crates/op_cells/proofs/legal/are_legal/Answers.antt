-- `op_cells::legal::are_legal` meets its contract: one law for each test.
use mathlib.Core.Path.{sym, ◌∙◌}
use native.Mathlib.Omega.{arith}
use Rattle.netlist.specs.Cells.{cell_count}
use Rattle.op_cells.proofs.Earlier.{many-inputs, many-cells, cut_off, all-earlier}
use Rattle.op_cells.proofs.legal.are_legal.Goals as goal

pub returns-then-inputs-gt-MAX_INPUTS : goal.returns-then-inputs-gt-MAX_INPUTS
returns-then-inputs-gt-MAX_INPUTS c = let a = c.args in sym (many-inputs a.inputs a.cells.now c.if-inputs-gt-MAX_INPUTS.true)

pub returns-then-length : goal.returns-then-length
returns-then-length c =
    let a = c.args in sym (many-cells a.inputs a.cells.now (omega arith) (omega arith))

pub returns-then-length-ne0 : goal.returns-then-length-ne0
returns-then-length-ne0 c =
    let start = c in
    let a = start.args in sym (cut_off a.inputs a.cells.now (omega arith) (omega arith) c.if-length-ne0.true)

pub returns : goal.returns
unfolding cell_count
returns c =
    let start = c in
    let a = start.args in
    c.all_read_earlier.ensures ∙ sym (all-earlier a.inputs a.cells.now (omega arith) (omega arith)
    c.if-length-ne0.false)
