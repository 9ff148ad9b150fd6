-- `words_block::names::Names::fit` meets its contract: each name is legal and new.
use borrow.Author.Rules.{rules}
use borrow.Author.Tests.{tests}
use Rattle.prelude.proofs.Ranges.{all-of_range}
use Rattle.words_block.specs.NameSteps.{new_name}
use Rattle.theory_encoding.specs.Rules.{names_rule}
use Rattle.words_block.proofs.names.Names.fit.Goals as goal

pub returns : goal.returns
unfolding names_rule
returns c =
    let n = c.args.self.now in
    all-of_range (new_name n.words.now n.at n.size) c.args.count c.all.ensures.ran (λ x b q k. search (rules, tests))
