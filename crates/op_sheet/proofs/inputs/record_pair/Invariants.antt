-- `op_sheet::inputs::record_pair` meets its contract: the pair is packed from the last record to the first
-- (`packed-next`).
use Rattle.prelude.specs.Lists.{tab}
use Rattle.op_sheet.specs.Records.{lane_value}
use Rattle.op_sheet.proofs.SideLaws.{Packed}
use Rattle.op_sheet.proofs.inputs.record_pair.Given as goal

abbrev pub invariant-loop-s : goal.invariant-loop-s
invariant-loop-s l =
    Packed (tab (lane_value l.masks.fixed.now l.masks.ones.now l.i) l.masks.count) l.s l.zeros l.marked
