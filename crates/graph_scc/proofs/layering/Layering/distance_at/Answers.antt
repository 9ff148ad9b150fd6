-- `graph_scc::layering::Layering::distance_at` meets its contract: it reads what the definition reads.
use mathlib.Core.Path.{refl}
use Rattle.graph_scc.specs.Leaders.{distance_at}
use Rattle.graph_scc.proofs.layering.Layering.distance_at.Goals as goal

pub returns : goal.returns
unfolding distance_at
returns c = refl
