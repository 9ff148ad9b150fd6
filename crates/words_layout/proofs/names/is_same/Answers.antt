-- `words_layout::names::is_same` meets its contract: its words are compared one by one.
use borrow.Author.Rules.{rules}
use borrow.Author.Tests.{tests}
use Rattle.prelude.proofs.Ranges.{all-of_range}
use Rattle.words_layout.specs.Names.{same_word_at}
use Rattle.words_layout.proofs.names.is_same.Goals as goal

pub returns : goal.returns
returns c =
    let a = c.args in
    all-of_range (same_word_at a.ours.now a.at a.theirs.now a.other) 4 c.all.ensures.ran (λ x b q k. search (rules, tests))
