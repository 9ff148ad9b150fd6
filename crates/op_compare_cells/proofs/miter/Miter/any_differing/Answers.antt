-- `op_compare_cells::miter::Miter::any_differing` meets its contract: the word of the first outputs is made one by one.
use mathlib.Core.Path.{refl, ap, ◌∙◌}
use borrow.Author.Rules.{rules}
use Rattle.op_compare_cells.specs.Words.{differing_words}
use Rattle.op_compare_cells.specs.Miter.{differing_below}
use Rattle.op_compare_cells.proofs.miter.Miter.any_differing.Goals as goal

pub returns : goal.returns
unfolding differing_words
returns c =
    let below = differing_below c.args.self.now in
    c.any_lanes.ensures below refl (λ o r h. search rules) ∙ ap below c.outputs_of.ensures
