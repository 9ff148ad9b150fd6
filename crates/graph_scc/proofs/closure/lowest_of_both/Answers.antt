-- `graph_scc::closure::lowest_of_both` meets its contract: the search tests whether a gate is in both sets.
use mathlib.Core.Path.{◌∙◌}
use borrow.Author.Rules.{rules}
use borrow.Author.Tests.{tests}
use Rattle.prelude.proofs.Ranges.{least-of_range}
use Rattle.graph_scc.specs.Closure.{in_both}
use Rattle.graph_scc.proofs.closure.lowest_of_both.Goals as goal

pub returns : goal.returns
returns c =
    c.unwrap_or.ensures
    ∙ least-of_range _ _ (in_both c.args.ahead.now c.args.behind.now) c.args.m c.find.ensures.ran
    (λ x b q k. search (rules, tests))
