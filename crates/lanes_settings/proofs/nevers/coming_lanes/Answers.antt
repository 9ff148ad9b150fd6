-- `lanes_settings::nevers::coming_lanes` meets its contract.
use Rattle.lanes_settings.proofs.NeverLaws.{coming-tells}
use Rattle.lanes_settings.proofs.nevers.coming_lanes.Goals as goal

pub returns : goal.returns
returns c = rw (c.used_lanes.ensures, c.inputs_of.ensures) (coming-tells _ c.excluded_lanes.ensures)
