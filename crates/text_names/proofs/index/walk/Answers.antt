-- `text_names::index::walk` meets its contract: it searches for the first entry that stops the walk.
use borrow.Author.Rules.{rules}
use borrow.Author.Tests.{tests}
use lib.ListN.{length, get_or}
use Rattle.prelude.proofs.Places.{first-of_range}
use Rattle.text_names.specs.Index.{stops_at}
use Rattle.text_names.proofs.Indexing.{walk-to}
use Rattle.text_names.proofs.index.walk.Goals as goal

pub returns : goal.returns
returns c =
    let a = c.args in
    walk-to a.names.now a.index.now a.name _ c.find.result c.hash.ensures
    (first-of_range _ c.find.result (λ at. stops_at a.names.now a.name (get_or a.index.now at 0)) _ (length a.index.now)
    c.find.ensures.ran (λ x b q k. search (rules, tests)))
