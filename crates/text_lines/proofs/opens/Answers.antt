-- `text_lines::opens` meets its contract: the chain takes the bytes before the first LF, and keeps the brackets.
use mathlib.Core.Path.{◌∙◌}
use mathlib.Core.Bool.{not}
use lib.Dec.{eqb}
use borrow.Author.Rules.{rules}
use borrow.Author.Tests.{tests}
use Rattle.std.proofs.lemmas.Iterator.{YieldsList-from_slice}
use Rattle.std.proofs.lemmas.Iterator.Consumers.{YieldsList-at, YieldsList-from_filter, count_from_yields_List}
use Rattle.std.proofs.lemmas.Iterator.Search.{YieldsList-from_take_while}
use Rattle.text_lines.proofs.Scanning.{opens-taken}
use Rattle.text_lines.proofs.opens.Goals as goal

pub returns : goal.returns
returns c =
    count_from_yields_List _ _ c.count.ensures.ran
    (YieldsList-from_filter _ (λ x. eqb x 40)
    (YieldsList-at c.filter.ensures.source
    (YieldsList-from_take_while _ (λ x. not (eqb x 10))
    (YieldsList-at c.take_while.ensures.source (YieldsList-from_slice c.args.s.now c.iter.ensures.rest))
    c.take_while.ensures.closure c.take_while.ensures.done (λ x b q k. search (rules, tests))))
    c.filter.ensures.closure (λ x b q k. search (rules, tests)))
    ∙ opens-taken c.args.s.now
