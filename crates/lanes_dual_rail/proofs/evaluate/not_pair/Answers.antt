-- `lanes_dual_rail::evaluate::not_pair` meets its contract: a word joined with itself is that word.
use Rattle.lanes_dual_rail.proofs.LaneWordLaws.{not-pair}
use Rattle.lanes_dual_rail.proofs.evaluate.not_pair.Goals as goal

pub returns : goal.returns
returns c =
    not-pair c.args.lanes.now c.args.gate.legal c.requires c.operand_pair-pair.ensures c.pair_at-one.ensures
