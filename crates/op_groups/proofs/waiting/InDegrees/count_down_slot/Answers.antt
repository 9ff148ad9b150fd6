-- `op_groups::waiting::InDegrees::count_down_slot` meets its contract: the group of another gate counts one slot less, and is
-- ready when none is left.
use mathlib.Core.Path.{refl}
use native.Mathlib.Omega.{arith}
use Rattle.op_groups.proofs.Counted.{leader-below, count-down-skip, slot-some, slot-stays, slot-ready}
use Rattle.op_groups.proofs.waiting.InDegrees.count_down_slot.Goals as goal

pub returns-then-groups-k : goal.returns-then-groups-k
returns-then-groups-k c = count-down-skip c.requires refl c.if-groups-k.true

pub bounds-self-leader : goal.bounds-self-leader
bounds-self-leader c = omega (arith, leader-below c.requires refl, c.requires.prepared.legal.few)

pub bounds-self-leader-2 : goal.bounds-self-leader-2
bounds-self-leader-2 c = omega (arith, leader-below c.requires refl, c.requires.prepared.legal.few)

pub overflow_sub-left : goal.overflow_sub-left
overflow_sub-left c = omega (arith, slot-some c.requires refl c.if-groups-k.false)

pub add-requires : goal.add-requires
add-requires c =
    omega (arith, leader-below c.requires refl, c.requires.prepared.legal.few, c.requires.waiting.ready_room)

pub returns-then-left-eq0 : goal.returns-then-left-eq0
returns-then-left-eq0 c =
    slot-ready c.requires refl c.if-groups-k.false c.if-left-eq0.true c.add.ensures.room c.add.ensures.added

pub returns-else-left-eq0 : goal.returns-else-left-eq0
returns-else-left-eq0 c = slot-stays c.requires refl c.if-groups-k.false c.if-left-eq0.false
