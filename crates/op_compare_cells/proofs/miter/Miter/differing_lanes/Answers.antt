-- `op_compare_cells::miter::Miter::differing_lanes` meets its contract, which is its code.
use mathlib.Core.Path.{refl}
use Rattle.op_compare_cells.specs.Words.{differing_in, differing_word}
use Rattle.op_compare_cells.proofs.miter.Miter.differing_lanes.Goals as goal

pub returns : goal.returns
unfolding differing_word differing_in
returns c =
    rw (
      c.choose.ensures,
      c.used_lanes-used.ensures,
      c.inputs_of.ensures,
      c.shown_word.ensures,
      c.output_pair-pair.ensures,
    ) refl
