-- `lanes_batch::layered::settle_layers` meets its contract: layer after layer is settled, and at the end every gate is
-- still.
use mathlib.Core.Path.{◌≡◌, refl}
use native.Mathlib.Omega.{arith}
use Rattle.lanes_batch.proofs.Layering.{reached-start, reached-fixed}
use Rattle.lanes_batch.proofs.layered.settle_layers.Goals as goal

pub loop-i-init : goal.loop-i-init
loop-i-init c = (omega arith, reached-start c.requires.2, refl)

pub returns : goal.returns
returns c =
    let all : c.loop-i.i ≡ c.args.m = omega arith in
    reached-fixed c.requires.1 (rw all at c.loop-i.invariant.1) c.loop-i.invariant.2
