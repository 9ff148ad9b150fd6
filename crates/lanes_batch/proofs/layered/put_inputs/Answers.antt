-- `lanes_batch::layered::put_inputs` meets its contract: after k turns the first k inputs' pairs stand there.
use native.Mathlib.Omega.{arith}
use Rattle.lanes_batch.proofs.Starting.{inputs-more}
use Rattle.lanes_batch.proofs.layered.put_inputs.Goals as goal

pub loop-k-preserved : goal.loop-k-preserved
loop-k-preserved c =
    inputs-more c.loop-k.invariant (omega arith) (omega (arith, c.loop-k-test.true, c.requires)) c.input_pair.ensures
    c.put_pair.ensures
