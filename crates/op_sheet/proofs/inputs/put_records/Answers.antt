-- `op_sheet::inputs::put_records` meets its contract: after k turns the first k inputs' pairs stand there.
use native.Mathlib.Omega.{arith}
use Rattle.lanes_batch.proofs.Starting.{inputs-more}
use Rattle.op_sheet.proofs.inputs.put_records.Goals as goal

pub loop-k-preserved : goal.loop-k-preserved
loop-k-preserved c = (
  omega arith,
  inputs-more c.loop-k.invariant.1 (omega arith) (omega (arith, c.loop-k-test.true, c.requires))
      c.record_pair.ensures c.put_pair.ensures,
)
