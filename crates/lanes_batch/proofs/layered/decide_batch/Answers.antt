-- `lanes_batch::layered::decide_batch` meets its contract: the lanes of the batch are settled.
use Rattle.lanes_batch.proofs.Layering.{started-fresh, fixed-batch}
use Rattle.lanes_batch.proofs.layered.decide_batch.Goals as goal

pub settle_layers-requires : goal.settle_layers-requires
settle_layers-requires c =
    let g = c.requires.graph in
    (g.0, g.1, started-fresh c.requires.n_le_max_inputs.0 c.start_lanes.ensures)

pub returns : goal.returns
returns c =
    let n = c.requires.n_le_max_inputs in
    fixed-batch n.0 n.1 c.start_lanes.ensures c.settle_layers.ensures
