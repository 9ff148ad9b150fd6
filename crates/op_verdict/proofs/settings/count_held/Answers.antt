-- `op_verdict::settings::count_held` meets its contract.
use mathlib.Core.Path.{◌∙◌}
use Rattle.lanes_dual_rail.proofs.InputLaws.{lanes_of-most}
use Rattle.lanes_dual_rail.proofs.WordLaws.{tells-count}
use Rattle.op_verdict.specs.Counts.{counted_from}
use Rattle.op_verdict.proofs.settings.count_held.Goals as goal

pub returns : goal.returns
unfolding counted_from
returns c = c.count_lanes.ensures ∙ tells-count (lanes_of-most _) c.counted_lanes.ensures
