-- `lanes_settings::settled::JudgedBatch::counted_lanes` meets its contract.
use Rattle.lanes_settings.proofs.SettledLaws.{counted-tells}
use Rattle.lanes_settings.proofs.settled.JudgedBatch.counted_lanes.Goals as goal

pub returns : goal.returns
returns c =
    rw (c.used_lanes-used.ensures, c.inputs_of.ensures) (counted-tells _ c.coming_lanes.ensures c.undecided_lanes.ensures)
