-- `op_settle::setting::none_above` meets its contract: each byte is compared.
use mathlib.Core.Path.{◌∙◌}
use borrow.Author.Rules.{rules}
use borrow.Author.Tests.{tests}
use Rattle.std.proofs.lemmas.Iterator.{YieldsList-from_slice}
use Rattle.std.proofs.lemmas.Iterator.Search.{all_from_yields_List}
use Rattle.prelude.proofs.Ranges.{list_all-all}
use Rattle.op_settle.specs.Tests.{at_most}
use Rattle.op_settle.proofs.setting.none_above.Goals as goal

pub returns : goal.returns
returns c =
    let a = c.args in
    all_from_yields_List (at_most a.most) _ _ _ c.all.ensures.ran (YieldsList-from_slice a.bytes.now c.iter.ensures.rest)
    (λ x b q k. search (rules, tests))
    ∙ list_all-all (at_most a.most) a.bytes.now
