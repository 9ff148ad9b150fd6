-- `op_compare_cells::miter::Miter::shown_word` meets its contract: a listed node has a place.
use mathlib.Core.Path.{refl}
use Rattle.op_compare_cells.specs.Words.{shown_word}
use Rattle.op_compare_cells.proofs.miter.Miter.shown_word.Goals as goal

pub returns : goal.returns
unfolding shown_word
returns c = rw (c.place_of.ensures, c.inputs_of.ensures) refl
