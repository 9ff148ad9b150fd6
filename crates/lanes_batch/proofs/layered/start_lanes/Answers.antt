-- `lanes_batch::layered::start_lanes` meets its contract: the constants, then the inputs.
use Rattle.lanes_batch.proofs.Starting.{lanes-started}
use Rattle.lanes_batch.proofs.layered.start_lanes.Goals as goal

pub returns : goal.returns
returns c = lanes-started c.requires.0 c.requires.1 c.start_constants.ensures c.put_inputs.ensures
