-- `op_compare_cells::choice::choose_of_two` meets its contract, which is its code.
use mathlib.Core.Path.{refl}
use Rattle.op_compare_cells.specs.Choices.{two_word}
use Rattle.op_compare_cells.proofs.choice.choose_of_two.Goals as goal

pub returns : goal.returns
unfolding two_word
returns c = refl
