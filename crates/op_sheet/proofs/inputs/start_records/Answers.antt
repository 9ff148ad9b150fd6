-- `op_sheet::inputs::start_records` meets its contract: the constants, then the inputs.
use Rattle.op_sheet.proofs.SideLaws.{records-started}
use Rattle.op_sheet.proofs.inputs.start_records.Goals as goal

pub returns : goal.returns
returns c =
    records-started _ _ _ _ c.requires.1 c.requires.0 c.args.masks.now.few c.start_constants.ensures
    c.put_records.ensures
