-- `text_names::pack::name_length` meets its contract: the chain takes the front's bytes.
use borrow.Author.Rules.{rules}
use borrow.Author.Tests.{tests}
use mathlib.Core.Path.{◌∙◌}
use Rattle.std.proofs.lemmas.Iterator.{YieldsList-from_slice, YieldsList-from_take}
use Rattle.std.proofs.lemmas.Iterator.Consumers.{YieldsList-at, count_from_yields_List}
use Rattle.std.proofs.lemmas.Iterator.Search.{YieldsList-from_take_while}
use Rattle.std.proofs.lemmas.List.Folds.{length-prefix_len}
use Rattle.netlist.specs.Names.{is_name_byte}
use Rattle.text_names.proofs.Packing.{front-taken}
use Rattle.text_names.proofs.pack.name_length.Goals as goal

pub returns : goal.returns
returns c =
    let a = c.args in
    count_from_yields_List _ _ c.count.ensures.ran
    (YieldsList-from_take_while _ is_name_byte
    (YieldsList-at c.take_while.ensures.source
    (YieldsList-from_take 8 (YieldsList-at c.take.ensures.source (YieldsList-from_slice a.s.now c.iter.ensures.rest))
    c.take.ensures.count))
    c.take_while.ensures.closure c.take_while.ensures.done (λ x b q k. search (rules, tests)))
    ∙ length-prefix_len is_name_byte _ ∙ front-taken 8 a.s.now
