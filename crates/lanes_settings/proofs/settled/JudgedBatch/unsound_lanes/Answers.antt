-- `lanes_settings::settled::JudgedBatch::unsound_lanes` meets its contract.
use Rattle.lanes_settings.proofs.SettledLaws.{unsound-tells}
use Rattle.lanes_settings.proofs.settled.JudgedBatch.unsound_lanes.Goals as goal

pub returns : goal.returns
returns c = unsound-tells _ c.coming_lanes.ensures c.undecided_lanes.ensures
