-- `op_cells::run::run_each` meets its contract: it fills the slice cell by cell, each from the values already there.
use Prim.Native.Nat.{◌≤◌}
use Rattle.prelude.proofs.Filling.{Filling}
use Rattle.op_cells.proofs.Running.{ran}
use Rattle.op_cells.proofs.run.run_each.Given as goal

abbrev pub invariant-loop-j : goal.invariant-loop-j
invariant-loop-j l =
    record { within : l.j ≤ l.count; filling : Filling l.initial.values l.values (ran l.inputs l.cells l.setting l.j) l.j }
