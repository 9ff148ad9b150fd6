-- `words_block::gates::fit` meets its contract: each gate keeps its rule.
use borrow.Author.Rules.{rules}
use borrow.Author.Tests.{tests}
use Rattle.prelude.proofs.Ranges.{all-of_range}
use Rattle.words_block.specs.GateSteps.{gate_rule_at}
use Rattle.words_block.proofs.gates.fit.Goals as goal

pub returns : goal.returns
returns c =
    let a = c.args in
    all-of_range (gate_rule_at a.words.now a.nodes a.at) a.m c.all.ensures.ran (λ x b q k. search (rules, tests))
