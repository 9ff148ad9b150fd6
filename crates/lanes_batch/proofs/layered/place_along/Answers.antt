-- `lanes_batch::layered::place_along` meets its contract.
use Rattle.lanes_batch.specs.Batch.{place_of}
use Rattle.lanes_batch.proofs.layered.place_along.Goals as goal

pub returns-then-back : goal.returns-then-back
unfolding place_of
returns-then-back c = rw c.if-back.true

pub returns-else-back : goal.returns-else-back
unfolding place_of
returns-else-back c = rw c.if-back.false
