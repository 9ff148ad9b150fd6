-- `op_groups::waiting::InDegrees::count_slot` meets its contract, by what the slot reads and its leader.
use Prim.Native.Nat.{◌/◌, ◌<◌}
use mathlib.Core.Path.{refl}
use native.Mathlib.Omega.{arith}
use lib.ListN.{get_or}
use Rattle.graph_gates.specs.Graph.{slots}
use Rattle.graph_gates.specs.Fanout.{slot_place}
use Rattle.graph_gates.proofs.Chains.{slot-inside}
use Rattle.op_groups.proofs.Leading.{lead-le}
use Rattle.op_groups.proofs.Counted.{counting-small, counting-skip, counting_more, crosses-no-gate, crosses-same}
use Rattle.op_groups.proofs.Counted.{crosses-other}
use Rattle.op_groups.proofs.waiting.InDegrees.count_slot.Goals.{Start}
use Rattle.op_groups.proofs.waiting.InDegrees.count_slot.Goals as goal

-- the leader of the slot's gate is a gate
low : (c : Start) → get_or c.args.groups.leaders.now (c.args.e / slots) 0 < c.args.groups.graph.gates
low c =
    let within : c.args.e / slots < c.args.groups.graph.gates = omega arith in
    omega (arith, lead-le c.requires.0.prepared (c.args.e / slots) within)

pub returns-then-place-lt-FIRST_GATE : goal.returns-then-place-lt-FIRST_GATE
unfolding slot_place
returns-then-place-lt-FIRST_GATE c =
    let graph = c.args.groups.graph.words.now in
    (counting-skip c.requires.0 (crosses-no-gate graph c.args.groups.leaders.now c.args.e (omega arith)), refl)

pub bounds-groups-place : goal.bounds-groups-place
unfolding slot_place
bounds-groups-place c =
    let legal = c.requires.0.prepared.legal in
    omega (arith, slot-inside legal c.args.e c.requires.1, legal.few)

pub returns-then-groups-place : goal.returns-then-groups-place
unfolding slot_place
returns-then-groups-place c =
    let graph = c.args.groups.graph.words.now in
    (counting-skip c.requires.0 (crosses-same graph c.args.groups.leaders.now c.args.e c.if-groups-place.true), refl)

pub bounds-self-leader-2 : goal.bounds-self-leader-2
bounds-self-leader-2 c =
    omega (arith, low (goal.at.bounds-self-leader-2 c).Start, c.requires.0.prepared.legal.few)

pub bounds-self-leader : goal.bounds-self-leader
bounds-self-leader c =
    omega (arith, low (goal.at.bounds-self-leader c).Start, c.requires.0.prepared.legal.few)

pub overflow_add-self : goal.overflow_add-self
overflow_add-self c =
    omega (
      arith,
      counting-small c.requires.0 (get_or c.args.groups.leaders.now (c.args.e / slots) 0) (low (goal.at.overflow_add-self c).Start),
      c.requires.0.prepared.legal.few,
    )

pub returns : goal.returns
unfolding slot_place
returns c =
    let g = c.args.groups in
    let other = crosses-other g.graph.words.now g.leaders.now c.args.e c.if-place-lt-FIRST_GATE.false c.if-groups-place.false in
    let leader = get_or g.leaders.now (c.args.e / slots) 0 in
    (counting_more c.requires.0 other leader refl (low (goal.at.returns c).Start) c.requires.0.prepared.legal.few, refl)
