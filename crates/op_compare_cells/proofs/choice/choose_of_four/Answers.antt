-- `op_compare_cells::choice::choose_of_four` meets its contract, which is its code.
use mathlib.Core.Path.{refl}
use Rattle.op_compare_cells.specs.Choices.{four_word}
use Rattle.op_compare_cells.proofs.choice.choose_of_four.Goals as goal

pub returns : goal.returns
unfolding four_word
returns c =
    let high = c in
    rw (c.choose.ensures, high.choose_of_two-2.ensures, high.choose_of_two.ensures) refl
