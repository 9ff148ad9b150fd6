-- `lanes_batch::layered::put_inputs` meets its contract: after k turns the first k inputs' pairs stand there.
use Rattle.lanes_dual_rail.specs.Batches.{input_pair}
use Rattle.lanes_batch.specs.Layered.{InputsPut}
use Rattle.lanes_batch.proofs.layered.put_inputs.Given as goal

abbrev pub invariant-loop-k : goal.invariant-loop-k
invariant-loop-k l = InputsPut (input_pair l.n l.base) l.k l.initial.lanes l.lanes
