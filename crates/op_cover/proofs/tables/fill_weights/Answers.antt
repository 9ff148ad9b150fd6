-- `tables::fill_weights` meets its contract: the weights of the masks passed are right, and a mask's half is one of
-- them.
use Prim.Native.Nat.{◌+◌, ◌*◌, ◌/◌, ◌%◌, ◌^◌, ◌<◌}
use mathlib.Core.Path.{refl}
use native.Mathlib.Omega.{arith}
use lib.ListN.{length, get_or, length-set}
use lib.Pow.{pow_pos}
use Rattle.netlist.specs.Limits.{max_inputs}
use Rattle.op_cover.proofs.Bounds.{two_fits, three-fits, shifted}
use Rattle.theory_cover.proofs.Numbers.{weight-lt}
use Rattle.op_cover.proofs.Weights.{weight-from-half, weights-first, weights-next}
use Rattle.op_cover.proofs.tables.fill_weights.Goals.{In-loop-mask}
use Rattle.op_cover.proofs.tables.fill_weights.Goals as goal

-- in a turn the mask is one of the table, and twice and more the weight of its half is small
facts : (c : In-loop-mask)
    → (c.loop-mask.mask < length c.loop-mask.weights) × (c.loop-mask.mask < 2 ^ max_inputs)
    × (3 * get_or c.loop-mask.weights (c.loop-mask.mask / 2) 0 + c.loop-mask.mask % 2 < 3 ^ max_inputs)
facts c =
    let loop = c.loop-mask in
    let n = c.args.n in
    let pre = c.requires in
    let l : loop.mask < 2 ^ n = omega (arith, loop.invariant.counts) in
    let two = two_fits {i = n} {n = n} (omega arith) pre.0 in
    let three = three-fits {i = n} {n = n} (omega arith) pre.0 in
    let h = loop.invariant.right (loop.mask / 2) (omega (arith, loop.invariant.some)) in (
      omega (arith, simp length-set at loop.invariant.same_length, pre.1),
      omega (arith, two),
      omega (arith, h, weight-from-half n loop.mask l, weight-lt n loop.mask, three),
    )

pub loop-mask-init : goal.loop-mask-init
loop-mask-init c =
    let pos = pow_pos c.args.n in
    record {
      some = omega arith;
      within = omega (arith, pos);
      counts = shifted c.requires.0;
      same_length = refl;
      right = λ m l. weights-first c.args.weights.now c.args.n m (omega (arith, pos, c.requires.1)) l;
    }

pub loop-mask-preserved : goal.loop-mask-preserved
loop-mask-preserved c =
    let loop = c.loop-mask in
    let l = c.loop-mask-test.true in
    let inside = facts (goal.at.loop-mask-preserved c).In-loop-mask in
    record {
      some = omega arith;
      within = omega (arith, l, loop.invariant.counts);
      counts = loop.invariant.counts;
      same_length = simp length-set (simp length-set at loop.invariant.same_length);
      right =
          weights-next loop.weights c.args.n loop.mask loop.invariant.right
          (omega (arith, loop.invariant.some)) (omega (arith, l, loop.invariant.counts)) inside.0;
    }

pub returns : goal.returns
returns c =
    let loop = c.loop-mask in
    let start = c in
    record {
      few = start.requires.0;
      room = omega (arith, simp length-set at loop.invariant.same_length, start.requires.1);
      right = λ m l. loop.invariant.right m (omega (arith, loop.invariant.counts, c.loop-mask-test.false));
    }

pub overflow_mul-weights : goal.overflow_mul-weights
overflow_mul-weights c = omega (arith, facts (goal.at.overflow_mul-weights c).In-loop-mask)

pub overflow_add-weights : goal.overflow_add-weights
overflow_add-weights c = omega (arith, facts (goal.at.overflow_add-weights c).In-loop-mask)
