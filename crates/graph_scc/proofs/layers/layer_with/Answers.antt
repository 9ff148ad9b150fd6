-- `graph_scc::layers::layer_with` meets its contract: the check shows that the search's answer is right, or one loop of
-- all gates stands there.
use Rattle.graph_scc.proofs.Layered.{layered, one-layer}
use Rattle.graph_scc.proofs.layers.layer_with.Goals as goal

pub returns-then-not-are_layers : goal.returns-then-not-are_layers
returns-then-not-are_layers c = one-layer c.write_one_layer.ensures

pub returns-else-not-are_layers : goal.returns-else-not-are_layers
returns-else-not-are_layers c = layered (c.are_layers.ensures c.if-not-are_layers.false)
