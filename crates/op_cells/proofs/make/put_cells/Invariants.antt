-- `op_cells::make::put_cells` meets its contract: whole cells stand in front, one more each turn.
use Prim.Native.Nat.{◌-◌}
use Rattle.op_cells.proofs.Made.{Making}
use Rattle.op_cells.proofs.make.put_cells.Given as goal

abbrev pub invariant-loop-p : goal.invariant-loop-p
invariant-loop-p l = Making l.block.words.now l.count l.initial.cells l.cells l.p

abbrev pub decreases-loop-p : goal.decreases-loop-p
decreases-loop-p l = l.count - l.p
