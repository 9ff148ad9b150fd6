-- `op_compare_cells::table::decode_cells` meets its contract: word after word is made.
use Prim.Native.Nat.{◌≤◌}
use lib.ListN.{length}
use Rattle.op_compare_cells.specs.Table.{Tabled}
use Rattle.op_compare_cells.proofs.table.decode_cells.Given as goal

abbrev pub invariant-loop-p : goal.invariant-loop-p
invariant-loop-p l = (l.p ≤ length l.cells) × Tabled l.n l.cells l.p l.table
