-- `words_layout::value_masks::masks_of` meets its contract: the masks of the values passed, from the last.
use mathlib.Core.Path.{sym}
use mathlib.Core.List.{map}
use Prim.Native.Nat.{◌-◌, ◌<◌}
use native.Mathlib.Omega.{arith}
use lib.ListN.{length, length-map}
use Rattle.netlist.specs.Values.{value_of, is_defined}
use Rattle.netlist.specs.Assignments.{is_one}
use Rattle.words_layout.proofs.Gathered.{gathered_none, gathered_next, gathered-all, defined-half}
use Rattle.words_layout.proofs.Gathered.{defined-fits, one-half, one-fits, bit_at}
use Rattle.words_layout.proofs.value_masks.masks_of.Goals.{In-loop-i}
use Rattle.words_layout.proofs.value_masks.masks_of.Goals as goal

-- the value of a turn is there
there : (c : In-loop-i) → c.loop-i.i - 1 < length c.args.values.now
there c = omega (arith, length-map c.args.values.now value_of, c.loop-i.invariant.below)

pub loop-i-init : goal.loop-i-init
loop-i-init c =
    let values = c.args.values.now in
    gathered_none (map value_of values) (sym (length-map values value_of))
    (rw (length-map values value_of) c.requires)

pub overflow_mul-defined : goal.overflow_mul-defined
overflow_mul-defined c = record { fits = defined-half c.loop-i.invariant (omega arith) }

pub overflow_add-defined : goal.overflow_add-defined
overflow_add-defined c =
    let below = there (goal.at.overflow_add-defined c).In-loop-i in
    let bit = bit_at is_defined c.args.values.now (c.loop-i.i - 1) below c.defined_bit.ensures in
    record { fits = defined-fits c.loop-i.invariant (omega arith) bit }

pub overflow_mul-ones : goal.overflow_mul-ones
overflow_mul-ones c = record { fits = one-half c.loop-i.invariant (omega arith) }

pub overflow_add-ones : goal.overflow_add-ones
overflow_add-ones c =
    let below = there (goal.at.overflow_add-ones c).In-loop-i in
    let bit = bit_at is_one c.args.values.now (c.loop-i.i - 1) below c.one_bit.ensures in
    record { fits = one-fits c.loop-i.invariant (omega arith) bit }

pub loop-i-preserved : goal.loop-i-preserved
loop-i-preserved c =
    let below = there (goal.at.loop-i-preserved c).In-loop-i in
    gathered_next c.loop-i.invariant (omega arith)
    (bit_at is_defined c.args.values.now (c.loop-i.i - 1) below c.defined_bit.ensures)
    (bit_at is_one c.args.values.now (c.loop-i.i - 1) below c.one_bit.ensures)

pub returns : goal.returns
returns c = gathered-all c.loop-i.invariant (omega arith)
