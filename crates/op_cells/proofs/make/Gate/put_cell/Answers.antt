-- `op_cells::make::Gate::put_cell` meets its contract: five stores, each of the cell's word there.
use native.Mathlib.Omega.{arith}
use lib.ListN.{length-set}
use Rattle.op_cells.specs.Made.{cell_put}
use Rattle.op_cells.proofs.make.Gate.put_cell.Goals as goal

pub bounds-cells-to : goal.bounds-cells-to
bounds-cells-to c = let s = c in omega (arith, s.requires)

pub bounds-cells-to-2 : goal.bounds-cells-to-2
bounds-cells-to-2 c = let s = c in simp length-set (omega (arith, s.requires))

pub bounds-cells-to-3 : goal.bounds-cells-to-3
bounds-cells-to-3 c = let s = c in simp length-set (omega (arith, s.requires))

pub bounds-cells-to-4 : goal.bounds-cells-to-4
bounds-cells-to-4 c = let s = c in simp length-set (omega (arith, s.requires))

pub bounds-cells-to-5 : goal.bounds-cells-to-5
bounds-cells-to-5 c = let s = c in simp length-set (omega (arith, s.requires))

pub returns : goal.returns
unfolding cell_put
returns c =
    let one = c in
    let two = c in
    let three = c in
    let four = c in
    rw (
      one.cell_word.ensures,
      two.cell_word-2.ensures,
      three.cell_word-3.ensures,
      four.cell_word-4.ensures,
      c.cell_word-5.ensures,
    )
