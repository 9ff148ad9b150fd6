-- `op_compare_cells::list::check_listed` meets its contract: the nodes are the inputs and the cells.
use native.Mathlib.Omega.{arith}
use Rattle.netlist.specs.Cells.{cell_count}
use Rattle.netlist.specs.CompareCells.{is_listed}
use Rattle.theory_encoding.proofs.Decoded.{decode-input_count}
use Rattle.theory_encoding.proofs.Readers.{whole_parts}
use Rattle.op_cells.proofs.Outcomes.{legal-short}
use Rattle.op_compare_cells.specs.Ready.{is_below}
use Rattle.op_compare_cells.proofs.list.check_listed.Goals as goal

pub overflow_add-nodes : goal.overflow_add-nodes
overflow_add-nodes c =
    let s = c in
    omega (
      arith,
      c.inputs_of.ensures,
      (whole_parts s.args.block.now.words.now s.args.block.now.well_formed).few_inputs,
      legal-short _ s.args.cells.now s.requires,
    )

pub returns : goal.returns
unfolding is_listed cell_count is_below
returns c =
    let below = c in
    let known = below in
    rw (decode-input_count known.args.block.now.words.now, ← known.inputs_of.ensures, ← below.all_below.ensures)
    c.refuse_if.ensures
