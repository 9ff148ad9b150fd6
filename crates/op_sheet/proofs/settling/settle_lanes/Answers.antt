-- `op_sheet::settling::settle_lanes` meets its contract: a straight block is settled by one sweep, another by its plan.
use Rattle.netlist.specs.declared.Refusal.TheVariants.{NotStraight}
use Rattle.words_refusals.proofs.Promised.{passed-false}
use Rattle.op_sheet.proofs.SettledLaws.{not-false}
use Rattle.op_sheet.proofs.settling.settle_lanes.Goals as goal

pub settle_ordered-requires : goal.settle_ordered-requires
settle_ordered-requires c = record {
  straight = not-false _ (passed-false _ NotStraight c.check_straight.ensures c.in-Ok.is);
  fresh = c.requires;
}
