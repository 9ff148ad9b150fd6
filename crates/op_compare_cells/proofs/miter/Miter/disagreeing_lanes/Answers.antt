-- `op_compare_cells::miter::Miter::disagreeing_lanes` meets its contract: outputs are compared where the setting counts.
use Rattle.op_compare_cells.proofs.Differences.{marks-disagreeing}
use Rattle.op_compare_cells.proofs.miter.Miter.disagreeing_lanes.Goals as goal

pub returns : goal.returns
returns c =
    let batch = c.args.self.now.batch in
    marks-disagreeing batch.words.now c.args.self.now.shown.now batch.judged c.counted_lanes.ensures c.any_differing.ensures
