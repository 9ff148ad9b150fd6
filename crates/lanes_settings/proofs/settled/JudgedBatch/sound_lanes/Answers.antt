-- `lanes_settings::settled::JudgedBatch::sound_lanes` meets its contract.
use Rattle.lanes_settings.proofs.SettledLaws.{sound-tells}
use Rattle.lanes_settings.proofs.settled.JudgedBatch.sound_lanes.Goals as goal

pub returns : goal.returns
returns c = rw (c.used_lanes.ensures, c.inputs_of.ensures) (sound-tells _ c.unsound_lanes.ensures)
