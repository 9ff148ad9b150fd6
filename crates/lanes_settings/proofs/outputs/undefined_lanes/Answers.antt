-- `lanes_settings::outputs::undefined_lanes` meets its contract.
use Rattle.lanes_settings.specs.Lanes.{undefined_in, undefined_word}
use Rattle.lanes_settings.proofs.outputs.undefined_lanes.Goals as goal

pub returns : goal.returns
unfolding undefined_word undefined_in
returns c = let u = c in rw (u.used_lanes.ensures, u.output_pair-pair.ensures)
