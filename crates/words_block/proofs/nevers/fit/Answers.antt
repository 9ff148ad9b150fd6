-- `words_block::nevers::fit` meets its contract: each line keeps its rule.
use borrow.Author.Rules.{rules}
use borrow.Author.Tests.{tests}
use Rattle.prelude.proofs.Ranges.{all-of_range}
use Rattle.words_block.specs.Steps.{never_rule_at}
use Rattle.words_block.proofs.nevers.fit.Goals as goal

pub returns : goal.returns
returns c =
    let a = c.args in
    all-of_range (never_rule_at a.words.now a.n a.at) a.l c.all.ensures.ran (λ x b q k. search (rules, tests))
