-- `lanes_batch::layered::is_gate_decided` meets its contract.
use Rattle.lanes_batch.specs.Layered.{is_decided_at}
use Rattle.lanes_batch.proofs.layered.is_gate_decided.Goals as goal

pub returns : goal.returns
unfolding is_decided_at
returns c = rw c.pair_at-pair.ensures
