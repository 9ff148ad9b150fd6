-- `words_block::outputs::fit` meets its contract: each output shows a node.
use borrow.Author.Rules.{rules}
use borrow.Author.Tests.{tests}
use Rattle.prelude.proofs.Ranges.{all-of_range}
use Rattle.words_block.specs.Steps.{shown_rule}
use Rattle.words_block.proofs.outputs.fit.Goals as goal

pub returns : goal.returns
returns c =
    let a = c.args in
    all-of_range (shown_rule a.words.now a.nodes a.at) a.k c.all.ensures.ran (λ x b q k. search (rules, tests))
