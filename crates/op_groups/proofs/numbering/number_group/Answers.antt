-- `op_groups::numbering::number_group` meets its contract: the gates of the group below the next one have the number.
use mathlib.Core.Path.{refl}
use native.Mathlib.Omega.{arith}
use Rattle.op_groups.proofs.Grouping.{group-first, group-count-down, group-next, group-end}
use Rattle.op_groups.proofs.numbering.number_group.Goals as goal

pub loop-k-init : goal.loop-k-init
loop-k-init c = group-first c.requires (omega arith) c.remove.ensures.room c.remove.ensures.removed

pub count_down-requires : goal.count_down-requires
count_down-requires c = group-count-down c.requires c.loop-k.invariant c.loop-k-test.true

pub loop-k-preserved : goal.loop-k-preserved
loop-k-preserved c = group-next c.requires c.loop-k.invariant c.loop-k-test.true refl c.count_down.ensures

pub returns : goal.returns
returns c = group-end c.requires c.loop-k.invariant c.loop-k-test.false
