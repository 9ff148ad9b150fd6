-- `lanes_settings::nevers::line_lanes` meets its contract.
use Rattle.netlist.specs.StoredBlock.{never_at}
use Rattle.lanes_settings.proofs.nevers.line_lanes.Goals as goal

pub returns : goal.returns
unfolding never_at
returns c = rw (c.inputs_of.ensures, c.word_at.ensures, c.word_at-2.ensures) at c.agreeing_lanes.ensures
