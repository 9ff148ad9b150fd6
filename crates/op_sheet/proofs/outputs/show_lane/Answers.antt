-- `op_sheet::outputs::show_lane` meets its contract: the masks of the outputs from o on are gathered.
use mathlib.Core.Path.{sym, ◌∙◌}
use Prim.Native.Nat.{◌-◌, ◌<◌}
use native.Mathlib.Omega.{arith}
use lib.ListN.{get_or}
use Rattle.netlist.specs.Values.{is_defined}
use Rattle.netlist.specs.Assignments.{is_one}
use Rattle.theory_encoding.proofs.Readers.{whole_parts}
use Rattle.words_layout.proofs.Gathered.{gathered_none, gathered_next, defined-half, defined-fits, one-half}
use Rattle.words_layout.proofs.Gathered.{one-fits}
use Rattle.op_sheet.proofs.SettledLaws.{length-shown, shown-bit}
use Rattle.op_sheet.proofs.LaneRecordLaws.{gathered-record}
use Rattle.op_sheet.proofs.outputs.show_lane.Goals.{In-loop-o}
use Rattle.op_sheet.proofs.outputs.show_lane.Goals as goal

there : (c : In-loop-o) → c.loop-o.o - 1 < get_or c.args.block.now.words.now 2 0
there c = omega (arith, length-shown (get_or c.args.block.now.words.now 2 0) c.args.shown.now c.args.s, c.loop-o.invariant.below)

pub loop-o-init : goal.loop-o-init
loop-o-init c =
    let ws = c.args.block.now.words.now in
    let long = length-shown (get_or ws 2 0) c.args.shown.now c.args.s in
    gathered_none _ (c.outputs_of-o.ensures ∙ sym long) (rw long (whole_parts ws c.args.block.now.well_formed).few_outputs)

pub overflow_mul-defined : goal.overflow_mul-defined
overflow_mul-defined c = record { fits = defined-half c.loop-o.invariant (omega arith) }

pub overflow_add-defined : goal.overflow_add-defined
overflow_add-defined c =
    let below = there (goal.at.overflow_add-defined c).In-loop-o in
    let bit = shown-bit is_defined _ _ _ _ below c.defined_bit.ensures in
    record { fits = defined-fits c.loop-o.invariant (omega arith) bit }

pub overflow_mul-values : goal.overflow_mul-values
overflow_mul-values c = record { fits = one-half c.loop-o.invariant (omega arith) }

pub overflow_add-values : goal.overflow_add-values
overflow_add-values c =
    let below = there (goal.at.overflow_add-values c).In-loop-o in
    let bit = shown-bit is_one _ _ _ _ below c.one_bit.ensures in
    record { fits = one-fits c.loop-o.invariant (omega arith) bit }

pub loop-o-preserved : goal.loop-o-preserved
loop-o-preserved c =
    let below = there (goal.at.loop-o-preserved c).In-loop-o in
    gathered_next c.loop-o.invariant (omega arith) (shown-bit is_defined _ _ _ _ below c.defined_bit.ensures)
    (shown-bit is_one _ _ _ _ below c.one_bit.ensures)

pub returns : goal.returns
returns c = gathered-record _ _ c.loop-o.invariant (omega arith)
