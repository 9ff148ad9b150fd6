-- The buffers are long enough, and nothing is prepared yet.
use Rattle.std.proofs.Common.{rules, refl}
use Rattle.graph_simulation.proofs.Starts.{empty}
use Rattle.bench.proofs.main.Goals as goal

pub serve-requires : goal.serve-requires
serve-requires c = (search rules, record { long = refl; empty = empty })
