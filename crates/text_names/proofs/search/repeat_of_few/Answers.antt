-- `text_names::search::repeat_of_few` meets its contract: the first of the numbers whose name repeats one before it.
use borrow.Author.Rules.{rules}
use borrow.Author.Tests.{tests}
use lib.ListN.{length}
use Rattle.prelude.proofs.Below.{found-of_range}
use Rattle.text_names.specs.Search.{repeats_at}
use Rattle.text_names.proofs.search.repeat_of_few.Goals as goal

pub returns : goal.returns
returns c =
    let s = c.args.names.now in
    found-of_range _ c.find.result (repeats_at s) (length s) c.find.ensures.ran (λ x b q k. search (rules, tests))
