-- `op_compare_cells::evaluate::put_inputs` meets its contract: the constants first, then input after input.
use Prim.Native.Nat.{◌≤◌}
use Rattle.netlist.specs.Limits.{max_inputs}
use Rattle.op_compare_cells.specs.CellLanes.{Filled}
use Rattle.op_compare_cells.proofs.evaluate.put_inputs.Given as goal

abbrev pub invariant-loop-i : goal.invariant-loop-i
invariant-loop-i l = (l.i ≤ max_inputs) × Filled l.n l.base l.i l.nodes
