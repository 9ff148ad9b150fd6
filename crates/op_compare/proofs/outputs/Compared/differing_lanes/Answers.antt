-- `op_compare::outputs::Compared::differing_lanes` meets its contract: both outputs can be read.
use mathlib.Core.Path.{refl, ◌∙◌}
use Rattle.op_compare.specs.Words.{port_pair, differing_word}
use Rattle.op_compare.proofs.outputs.Compared.differing_lanes.Goals as goal

pub returns : goal.returns
unfolding differing_word port_pair
returns c =
    let inputs = c.args.self.now.pair.inputs in
    c.difference.ensures ∙ rw (c.output_pair-shown.ensures, c.output_pair-other.ensures, inputs) refl
