-- `lanes_settings::settled::JudgedBatch::undecided_lanes` meets its contract.
use Rattle.lanes_settings.proofs.OutputLaws.{outputs-there, unsettled-tells}
use Rattle.lanes_settings.proofs.settled.JudgedBatch.undecided_lanes.Goals as goal

pub unsettled_lanes-requires : goal.unsettled_lanes-requires
unsettled_lanes-requires c =
    let j = c.args.self.now.judged in
    rw c.outputs_of.ensures (outputs-there c.args.self.now.words.now j.whole c.inputs_of.ensures c.outputs_at-at.ensures)

pub returns : goal.returns
returns c =
    rw (c.unsettled_lanes.ensures, c.inputs_of.ensures, c.outputs_of.ensures)
    (unsettled-tells c.args.self.now.judged c.outputs_at-at.ensures)
