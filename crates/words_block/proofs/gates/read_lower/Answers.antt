-- `words_block::gates::read_lower` meets its contract: each gate keeps its rule with only lower gates.
use borrow.Author.Rules.{rules}
use borrow.Author.Tests.{tests}
use Rattle.prelude.proofs.Ranges.{all-of_range}
use Rattle.words_block.specs.GateSteps.{lower_rule_at}
use Rattle.words_block.proofs.gates.read_lower.Goals as goal

pub returns : goal.returns
returns c =
    let a = c.args in
    all-of_range (lower_rule_at a.words.now a.n a.at) a.m c.all.ensures.ran (λ x b q k. search (rules, tests))
