-- `words_layout::nodes::nodes_of` meets its contract: each field is read by a function of `offsets`.
use mathlib.Core.Path.{refl}
use Rattle.words_layout.specs.Nodes.{nodes_of}
use Rattle.words_layout.proofs.nodes.nodes_of.Goals as goal

pub returns : goal.returns
unfolding nodes_of
returns c = rw (c.inputs_of.ensures, c.gates_of.ensures, c.gates_at.ensures) refl
