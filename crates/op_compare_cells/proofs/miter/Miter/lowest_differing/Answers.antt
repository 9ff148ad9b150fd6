-- `op_compare_cells::miter::Miter::lowest_differing` meets its contract: the first output that differs at the lane.
use mathlib.Core.Path.{ap, ◌∙◌}
use borrow.Author.Rules.{rules}
use Rattle.prelude.specs.Lists.{least}
use Rattle.op_compare_cells.specs.Words.{differs_at}
use Rattle.op_compare_cells.specs.Miter.{differs_in}
use Rattle.op_compare_cells.proofs.miter.Miter.lowest_differing.Goals as goal

pub returns : goal.returns
unfolding differs_at
returns c =
    let test = differs_in c.args.self.now c.args.lane in
    c.lowest_output.ensures test (λ o r h. search rules) ∙ ap (least test) c.outputs_of.ensures
