-- `op_sheet::outputs::put_outputs` meets its contract: after o turns the first o outputs' pairs stand there.
use mathlib.Core.Path.{refl, ◌∙◌}
use Prim.Native.Nat.{◌<◌}
use native.Mathlib.Omega.{arith}
use lib.ListN.{get_or}
use Rattle.theory_encoding.proofs.Readers.{whole_parts}
use Rattle.lanes_dual_rail.specs.LaneWords.{put_pair}
use Rattle.lanes_settings.proofs.OutputLaws.{output-there}
use Rattle.op_sheet.proofs.SettledLaws.{outputs-more}
use Rattle.op_sheet.proofs.outputs.put_outputs.Goals.{In-loop-o}
use Rattle.op_sheet.proofs.outputs.put_outputs.Goals as goal

there : (c : In-loop-o) → c.loop-o.o < get_or c.args.block.now.words.now 2 0
there c = omega (arith, c.loop-o-test.true, c.loop-o.invariant.2)

small : (c : In-loop-o) → c.loop-o.o < 16
small c = omega (arith, there c, (whole_parts c.args.block.now.words.now c.args.block.now.well_formed).few_outputs)

pub output_pair-pair-requires : goal.output_pair-pair-requires
output_pair-pair-requires c =
    let i = c.loop-o.invariant in
    output-there c.args.block.now.words.now c.args.block.now.well_formed i.0 i.1 c.loop-o.o
    (there (goal.at.output_pair-pair-requires c).In-loop-o)

pub loop-o-preserved : goal.loop-o-preserved
unfolding put_pair
loop-o-preserved c =
    let i = c.loop-o.invariant in
    let below = small (goal.at.loop-o-preserved c).In-loop-o in
    (i.0, i.1, i.2, omega arith, outputs-more i.4 below (c.output_pair-pair.ensures ∙ rw (i.0, i.1) refl))

pub overflow_mul-shown : goal.overflow_mul-shown
overflow_mul-shown c = omega (arith, small (goal.at.overflow_mul-shown c).In-loop-o)

pub offset_bounds-shown-o : goal.offset_bounds-shown-o
offset_bounds-shown-o c = omega (arith, small (goal.at.offset_bounds-shown-o c).In-loop-o)

pub bounds-shown-o : goal.bounds-shown-o
bounds-shown-o c = omega (arith, small (goal.at.bounds-shown-o c).In-loop-o)

pub overflow_mul-shown-in-loop-o : goal.overflow_mul-shown-in-loop-o
overflow_mul-shown-in-loop-o c = omega (arith, small (goal.at.overflow_mul-shown-in-loop-o c).In-loop-o)

pub overflow_add-shown : goal.overflow_add-shown
overflow_add-shown c = omega (arith, small (goal.at.overflow_add-shown c).In-loop-o)

pub offset_bounds-shown-o-in-loop-o : goal.offset_bounds-shown-o-in-loop-o
offset_bounds-shown-o-in-loop-o c = omega (arith, small (goal.at.offset_bounds-shown-o-in-loop-o c).In-loop-o)

pub bounds-shown-o-in-loop-o : goal.bounds-shown-o-in-loop-o
bounds-shown-o-in-loop-o c = omega (arith, small (goal.at.bounds-shown-o-in-loop-o c).In-loop-o)
