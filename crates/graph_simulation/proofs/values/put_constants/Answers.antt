-- `graph_simulation::values::put_constants` meets its contract.
use Rattle.graph_simulation.proofs.Starts.{starting-none}
use Rattle.graph_simulation.proofs.values.put_constants.Goals as goal

pub returns : goal.returns
returns c = search starting-none
