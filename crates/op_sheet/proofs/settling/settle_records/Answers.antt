-- `op_sheet::settling::settle_records` meets its contract: the lanes are started, settled and shown.
use Rattle.theory_encoding.proofs.Readers.{whole_parts}
use Rattle.op_sheet.proofs.SettledLaws.{settled-lanes}
use Rattle.op_sheet.proofs.settling.settle_records.Goals as goal

pub start_records-requires : goal.start_records-requires
start_records-requires c =
    let parts = whole_parts c.args.block.now.words.now c.args.block.now.well_formed in
    (rw c.gates_of.ensures parts.few_gates, rw c.inputs_of.ensures parts.few_inputs)

pub returns : goal.returns
returns c =
    settled-lanes c.args.block.now.words.now c.args.block.now.well_formed _ _ _ (rw c.inputs_of.ensures at c.start_records.ensures)
    c.settle_lanes.ensures c.put_outputs.ensures c.args.masks.now.few
