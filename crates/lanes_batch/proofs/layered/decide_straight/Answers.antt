-- `lanes_batch::layered::decide_straight` meets its contract: the lanes of the batch are settled.
use Rattle.lanes_batch.proofs.Layering.{started-fresh, fixed-batch}
use Rattle.lanes_batch.proofs.layered.decide_straight.Goals as goal

pub returns : goal.returns
returns c =
    let n = c.requires.n_le_max_inputs in
    let e = c.start_lanes.ensures in
    fixed-batch n.0 n.1 e (c.settle_straight.ensures.each _ (started-fresh n.0 e))
