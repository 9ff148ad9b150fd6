-- `op_compare_cells::table::decode_cells` meets its contract: word after word is made.
use mathlib.Core.Path.{◌≡◌, refl}
use native.Mathlib.Omega.{arith}
use lib.ListN.{length}
use Rattle.netlist.specs.Cells.{cell_count}
use Rattle.op_compare_cells.proofs.Decoding.{LegalParts, legal-parts, tabled-more, tabled-count}
use Rattle.op_compare_cells.proofs.table.decode_cells.Goals.{At-loop-p}
use Rattle.op_compare_cells.proofs.table.decode_cells.Goals as goal

legal : (c : At-loop-p) → let a = c.args in LegalParts a.n a.cells.now
legal c = legal-parts c.args.n c.args.cells.now c.requires

pub bounds-table-p : goal.bounds-table-p
bounds-table-p c = let few = legal (goal.at.bounds-table-p c).At-loop-p in omega arith

pub loop-p-preserved : goal.loop-p-preserved
loop-p-preserved c =
    let turn = c in
    (omega arith, tabled-more (legal (goal.at.loop-p-preserved c).At-loop-p) turn.loop-p.invariant.1 c.loop-p-test.true c.table_word.ensures)

pub overflow_cast-table : goal.overflow_cast-table
overflow_cast-table c = let few = legal (goal.at.overflow_cast-table c).At-loop-p in omega arith

pub returns : goal.returns
unfolding cell_count
returns c =
    let l = c in
    let cells = l.args.cells.now in
    let all : l.loop-p.p ≡ length cells = omega arith in
    tabled-count (legal (goal.at.returns c).At-loop-p) (rw all at l.loop-p.invariant.1) refl
    (λ i. omega (arith, l.shared_slice_known-1.given i))
