-- `text_block::put_names` meets its contract: one name a turn.
use native.Mathlib.Omega.{arith}
use mathlib.Core.Path.{◌∙◌}
use Rattle.prelude.proofs.Stores.{sets-joined-next}
use Rattle.text_block.specs.Words.{name_of}
use Rattle.text_block.proofs.BlockParts.{name-size}
use Rattle.text_block.proofs.put_names.Goals as goal

pub loop-i-preserved : goal.loop-i-preserved
unfolding name_of
loop-i-preserved c =
    let at-loop = c in
    let start = at-loop in
    let a = start.args in
    let l = at-loop.loop-i in (
      omega arith,
      sets-joined-next (name_of a.names.now) 4 (name-size a.names.now) a.block.now l.block _ 4 l.i
          l.invariant.1 c.put_name.ensures,
      c.put_name.auto.block ∙ l.invariant.2,
    )
