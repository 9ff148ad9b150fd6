-- `words_block::names::Names::is_new` meets its contract: the names before it are others.
use borrow.Author.Rules.{rules}
use borrow.Author.Tests.{tests}
use Rattle.prelude.proofs.Ranges.{all-of_range}
use Rattle.words_block.specs.NameSteps.{other_name}
use Rattle.words_block.proofs.names.Names.is_new.Goals as goal

pub returns : goal.returns
returns c =
    let n = c.args.self.now in
    all-of_range (other_name n.words.now n.at n.size c.args.j) c.args.j c.all.ensures.ran (λ x b q k. search (rules, tests))
