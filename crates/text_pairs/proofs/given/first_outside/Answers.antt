-- `text_pairs::given::first_outside` meets its contract: the chain answers with the first number that passes its test.
-- Assumes nothing.
use borrow.Author.Rules.{rules}
use borrow.Author.Tests.{tests}
use lib.ListN.{length}
use Rattle.prelude.proofs.Below.{found-of_range, below-none}
use Rattle.text_pairs.specs.Tables.{is_outside}
use Rattle.text_pairs.proofs.given.first_outside.Goals as goal

pub returns : goal.returns
unfolding is_outside
returns c =
    let a = c.args in
    found-of_range _ c.find.result (is_outside a.names.now a.inputs.now (length a.inputs.now)) (length a.names.now)
    c.find.ensures.ran (λ x b q k. search (rules, tests, below-none))
