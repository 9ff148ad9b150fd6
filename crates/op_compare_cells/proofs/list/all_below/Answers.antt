-- `op_compare_cells::list::all_below` meets its contract: every word is tested.
use mathlib.Core.Path.{◌∙◌}
use borrow.Author.Rules.{rules}
use borrow.Author.Tests.{tests}
use Rattle.std.proofs.lemmas.Iterator.{YieldsList-from_slice}
use Rattle.std.proofs.lemmas.Iterator.Search.{all_from_yields_List}
use Rattle.prelude.proofs.Ranges.{list_all-all}
use Rattle.op_compare_cells.specs.Ready.{is_below}
use Rattle.op_compare_cells.proofs.list.all_below.Goals as goal

pub returns : goal.returns
unfolding is_below
returns c =
    all_from_yields_List (is_below c.args.nodes) _ _ _ c.all.ensures.ran
    (YieldsList-from_slice c.args.shown.now c.iter.ensures.rest) (λ x b q k. search (rules, tests))
    ∙ list_all-all (is_below c.args.nodes) c.args.shown.now
