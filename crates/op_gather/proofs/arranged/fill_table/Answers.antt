-- `op_gather::arranged::fill_table` meets its contract: after j turns j words stand.
use mathlib.Core.Path.{refl}
use native.Mathlib.Omega.{arith}
use native.Mathlib.Numerals.{add-one}
use Rattle.prelude.proofs.Filling.{filling-more}
use Rattle.op_gather.specs.Arranging.{new_word}
use Rattle.op_gather.proofs.arranged.fill_table.Goals as goal

pub loop-j-preserved : goal.loop-j-preserved
unfolding new_word
loop-j-preserved c = filling-more c.loop-j.invariant (omega arith) _ (rw add-one refl)
