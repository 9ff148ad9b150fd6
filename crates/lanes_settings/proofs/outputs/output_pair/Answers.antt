-- `lanes_settings::outputs::output_pair` meets its contract.
use mathlib.Core.Path.{◌∙◌}
use Rattle.lanes_settings.specs.Lanes.{output_pair}
use Rattle.lanes_settings.proofs.outputs.output_pair.Goals as goal

pub returns : goal.returns
unfolding output_pair
returns c = let p = c in c.pair_at.ensures ∙ rw (p.place_of.ensures, p.word_at-node.ensures)
