-- `op_cells::make::put_cells` meets its contract: whole cells stand in front, one more each turn.
use mathlib.Core.Path.{◌≡◌}
use Prim.Native.Nat.{◌+◌, ◌*◌, ◌/◌, ◌≤◌, ◌<◌}
use native.Mathlib.Omega.{arith}
use lib.ListN.{length}
use Rattle.netlist.specs.StoredBlock.{gate_size, operand_words, outputs_at}
use Rattle.netlist.specs.Cells.{cell_size}
use Rattle.theory_encoding.proofs.Readers.{whole_parts}
use Rattle.op_settle.proofs.Codes.{legal-head}
use Rattle.op_cells.proofs.Made.{made_more, made_all}
use Rattle.op_cells.proofs.make.put_cells.Goals.{In-loop-p}
use Rattle.op_cells.proofs.make.put_cells.Goals as goal

-- a cell more has room, and its gate's words are there
inside : (c : In-loop-p) → (c.loop-p.p + cell_size ≤ c.args.count)
    × (c.gates_at-start.result + c.loop-p.p + operand_words < length c.args.block.now.words.now)
unfolding outputs_at
inside c =
    let w = whole_parts c.args.block.now.words.now c.args.block.now.well_formed in
    let more : c.loop-p.p + cell_size ≤ c.args.count =
    omega (arith, c.loop-p-test.true, c.loop-p.invariant.whole, c.requires.0) in
    (more, omega (arith, w.sized, c.gates_at-start.ensures, more, c.requires.0))

pub invariant_of-gate : goal.invariant_of-gate
invariant_of-gate c =
    let p = c.loop-p.p in
    let place : gate_size * (p / cell_size) ≡ p = omega (arith, c.loop-p.invariant.whole) in
    let head = legal-head c.args.block.now.words.now (p / cell_size) c.args.block.now.well_formed
    (omega (arith, c.loop-p-test.true, c.requires.0)) in record {
      legal = rw c.gates_at-start.ensures (rw place at head);
      whole = (inside (goal.at.invariant_of-gate c).In-loop-p).1;
    }

pub put_cell-requires : goal.put_cell-requires
put_cell-requires c =
    let room = inside (goal.at.put_cell-requires c).In-loop-p in
    rw c.loop-p.invariant.tabled.kept (omega (arith, room.0, c.requires.1))

pub overflow_add-p : goal.overflow_add-p
overflow_add-p c = omega (arith, inside (goal.at.overflow_add-p c).In-loop-p)

pub loop-p-preserved : goal.loop-p-preserved
loop-p-preserved c =
    rw c.put_cell.ensures
    (made_more c.requires.0 c.requires.1 c.gates_at-start.ensures c.loop-p-test.true
    c.loop-p.invariant)

pub returns : goal.returns
returns c = made_all c.requires.0 (omega (arith, c.loop-p-test.false)) c.loop-p.invariant

pub overflow_add-gate : goal.overflow_add-gate
overflow_add-gate c = omega (arith, inside (goal.at.overflow_add-gate c).In-loop-p)

pub shape_of-cells : goal.shape_of-cells
shape_of-cells c = c.loop-p.invariant.tabled.kept
