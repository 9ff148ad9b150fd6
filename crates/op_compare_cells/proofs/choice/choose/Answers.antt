-- `op_compare_cells::choice::choose` meets its contract, which is its code.
use mathlib.Core.Path.{refl}
use Rattle.op_compare_cells.specs.Choices.{choice_word}
use Rattle.op_compare_cells.proofs.choice.choose.Goals as goal

pub returns : goal.returns
unfolding choice_word
returns c = refl
