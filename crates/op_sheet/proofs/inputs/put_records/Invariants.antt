-- `op_sheet::inputs::put_records` meets its contract: after k turns the first k inputs' pairs stand there.
use Prim.Native.Nat.{◌≤◌}
use Rattle.lanes_batch.specs.Layered.{InputsPut}
use Rattle.op_sheet.specs.Masks.{pair_of}
use Rattle.op_sheet.proofs.inputs.put_records.Given as goal

abbrev pub invariant-loop-k : goal.invariant-loop-k
invariant-loop-k l = (l.k ≤ l.n) × InputsPut (pair_of l.masks) l.k l.initial.lanes l.lanes
