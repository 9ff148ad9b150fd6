-- `lanes_settings::outputs::lowest_output` meets its contract: the first output whose word marks the lane.
use mathlib.Core.Path.{◌∙◌}
use borrow.Author.Rules.{rules}
use borrow.Author.Tests.{tests}
use Rattle.prelude.proofs.Ranges.{least-of_range}
use Rattle.netlist.specs.Assignments.{bit}
use Rattle.lanes_dual_rail.specs.Words.{has_lane}
use Rattle.lanes_settings.proofs.outputs.lowest_output.Goals as goal

pub returns : goal.returns
unfolding has_lane bit
returns g c =
    λ test h.
    c.unwrap_or.ensures
    ∙ least-of_range _ c.find.result test c.args.count c.find.ensures.ran
    (λ x b q k. search (rules, tests))
