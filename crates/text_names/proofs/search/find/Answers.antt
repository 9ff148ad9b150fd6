-- `text_names::search::find` meets its contract: the place of the first name that is the one.
use borrow.Author.Rules.{rules}
use borrow.Author.Tests.{tests}
use lib.Dec.{eqb}
use Rattle.std.proofs.lemmas.Iterator.{YieldsList-from_slice}
use Rattle.prelude.proofs.Below.{found-of_position}
use Rattle.text_names.specs.Search.{is_at, index_of}
use Rattle.text_names.proofs.search.find.Goals as goal

pub returns : goal.returns
unfolding is_at index_of
returns c =
    let a = c.args in
    found-of_position (λ x. eqb x a.name) a.names.now 0 _ _ c.position.result c.position.ensures.ran
    (YieldsList-from_slice _ c.iter.ensures.rest) (λ x b q k. search (rules, tests))
