-- `op_line::until_lf` meets its contract: `position` finds the first LF.
use mathlib.Core.Path.{◌∙◌}
use lib.Dec.{eqb}
use borrow.Author.Rules.{rules}
use borrow.Author.Tests.{tests}
use Rattle.std.proofs.lemmas.Iterator.{YieldsList-from_slice}
use Rattle.std.proofs.lemmas.Iterator.Search.{position_from_yields_List}
use Rattle.netlist.specs.Line.{lf}
use Rattle.op_line.proofs.Ends.{until-found}
use Rattle.op_line.proofs.until_lf.Goals as goal

pub returns : goal.returns
returns c =
    let bytes = c.args.bytes.now in
    let found = position_from_yields_List (λ b. eqb b lf) _ _ c.position.result c.position.ensures.ran
    (YieldsList-from_slice bytes c.iter.ensures.rest) (λ x b q k. search (rules, tests)) in
    c.unwrap_or.ensures ∙ until-found bytes c.position.result found
