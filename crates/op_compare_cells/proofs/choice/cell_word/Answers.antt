-- `op_compare_cells::choice::cell_word` meets its contract, which is its code.
use mathlib.Core.Path.{refl}
use Rattle.op_compare_cells.specs.Choices.{cell_word}
use Rattle.op_compare_cells.proofs.choice.cell_word.Goals as goal

pub returns : goal.returns
unfolding cell_word
returns c =
    let high = c in
    let twelfth = high in
    let low = twelfth in
    let fourth = low in
    rw (
      c.choose.ensures,
      high.choose-high.ensures,
      twelfth.choose_of_four-4.ensures,
      twelfth.choose_of_four-3.ensures,
      low.choose-low.ensures,
      fourth.choose_of_four-2.ensures,
      fourth.choose_of_four.ensures,
    ) refl
