-- `op_sheet::inputs::record_pair` meets its contract: the pair is packed from the last record to the first
-- (`packed-next`).
use mathlib.Core.Path.{◌≡◌, refl, sym}
use mathlib.Core.Bool.{cond}
use Prim.Native.Nat.{◌-◌, ◌<◌}
use native.Mathlib.Omega.{arith}
use lib.ListN.{get_or}
use Rattle.prelude.specs.Lists.{tab}
use Rattle.prelude.proofs.Tab.{length-tab}
use Rattle.netlist.specs.Values.{undefined}
use Rattle.netlist.specs.Assignments.{is_one}
use Rattle.op_sheet.specs.Records.{is_zero, lane_value, record_pair}
use Rattle.op_sheet.proofs.SideLaws.{packed_none, packed-next, packed_all, zeros-half, zeros-fit}
use Rattle.op_sheet.proofs.SideLaws.{ones_half, ones-fit, lane-bit}
use Rattle.op_sheet.proofs.inputs.record_pair.Goals.{After-one_bit, After-zero_bit}
use Rattle.op_sheet.proofs.inputs.record_pair.Goals as goal

-- the bits that a turn adds
zero_is : (c : After-zero_bit) → let masks = c.args.masks.now in
    c.zero_bit.result
    ≡ cond (is_zero
    (get_or (tab (lane_value masks.fixed.now masks.ones.now c.args.i) masks.count) (c.loop-s.s - 1) undefined)) 1 0
zero_is c =
    let masks = c.args.masks.now in
    let e = length-tab (lane_value masks.fixed.now masks.ones.now c.args.i) masks.count in
    let below : c.loop-s.s - 1 < masks.count = omega (arith, e, c.loop-s.invariant.below) in
    lane-bit is_zero masks.fixed.now masks.ones.now c.args.i masks.count (c.loop-s.s - 1) below refl refl
    c.zero_bit.ensures

one-is : (c : After-one_bit) → let masks = c.args.masks.now in
    c.one_bit.result
    ≡ cond (is_one
    (get_or (tab (lane_value masks.fixed.now masks.ones.now c.args.i) masks.count) (c.loop-s.s - 1) undefined)) 1 0
one-is c =
    let masks = c.args.masks.now in
    let e = length-tab (lane_value masks.fixed.now masks.ones.now c.args.i) masks.count in
    let below : c.loop-s.s - 1 < masks.count = omega (arith, e, c.loop-s.invariant.below) in
    lane-bit is_one masks.fixed.now masks.ones.now c.args.i masks.count (c.loop-s.s - 1) below refl refl
    c.one_bit.ensures

pub loop-s-init : goal.loop-s-init
loop-s-init c =
    let masks = c.args.masks.now in
    let f = lane_value masks.fixed.now masks.ones.now c.args.i in
    packed_none (tab f masks.count) (sym (length-tab f masks.count)) (rw (length-tab f masks.count) masks.few)

pub overflow_mul-zeros : goal.overflow_mul-zeros
overflow_mul-zeros c = record { fits = zeros-half c.loop-s.invariant (omega arith) }

pub overflow_add-zeros : goal.overflow_add-zeros
overflow_add-zeros c =
    record { fits = zeros-fit c.loop-s.invariant (omega arith) (zero_is (goal.at.overflow_add-zeros c).After-zero_bit) }

pub overflow_mul-marked : goal.overflow_mul-marked
overflow_mul-marked c = record { fits = ones_half c.loop-s.invariant (omega arith) }

pub overflow_add-marked : goal.overflow_add-marked
overflow_add-marked c =
    record { fits = ones-fit c.loop-s.invariant (omega arith) (one-is (goal.at.overflow_add-marked c).After-one_bit) }

pub loop-s-preserved : goal.loop-s-preserved
loop-s-preserved c =
    let places = goal.at.loop-s-preserved c in
    packed-next c.loop-s.invariant (omega arith) (zero_is places.After-zero_bit) (one-is places.After-one_bit)

pub returns : goal.returns
unfolding record_pair
returns c = packed_all c.loop-s.invariant (omega arith)
