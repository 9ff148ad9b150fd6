-- `op_compare_cells::evaluate::evaluate_cells` meets its contract: with the inputs' words in place, each cell reads
-- only places that have theirs.
use Prim.Native.Nat.{◌≤◌}
use Rattle.op_compare_cells.specs.Table.{count_in, table_cells}
use Rattle.op_compare_cells.specs.CellLanes.{Evaluated}
use Rattle.op_compare_cells.proofs.evaluate.evaluate_cells.Given as goal

abbrev pub invariant-loop-j : goal.invariant-loop-j
invariant-loop-j l = (l.j ≤ count_in l.table) × Evaluated l.n l.base (table_cells l.table) l.j l.nodes
