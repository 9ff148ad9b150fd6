-- `op_compare::outputs::Compared::disagreeing_lanes` meets its contract: outputs are compared where ours counts.
use Rattle.op_compare.proofs.Differences.{both-judged, marked-lanes}
use Rattle.op_compare.proofs.outputs.Compared.disagreeing_lanes.Goals as goal

pub returns : goal.returns
returns c =
    let s = c.args.self.now in
    marked-lanes (both-judged s.pair s.same s.ours.judged s.theirs.judged) c.counted_lanes.ensures c.any_differing.ensures
