-- `minimal::keep_minimal` meets its contract: the bytes passed are cleared or right, the others as they were
-- (`OnlyMinimal`).
use Prim.Native.Nat.{◌<◌}
use mathlib.Core.Path.{sym, ◌∙◌}
use native.Mathlib.Omega.{arith}
use lib.ListN.{length, length-set}
use Rattle.op_cover.proofs.Dropping.{minimal-unsound, minimal-stays, minimal-cleared}
use Rattle.op_cover.proofs.minimal.keep_minimal.Goals.{then-sound-k-eq1+then-is_minimal, then-sound-k-eq1+else-is_minimal}
use Rattle.op_cover.proofs.minimal.keep_minimal.Goals.{else-sound-k-eq1}
use Rattle.op_cover.proofs.minimal.keep_minimal.Goals as goal

pub loop-k-preserved : goal.loop-k-preserved
loop-k-preserved c =
    let loop = c.loop-k in
    let l : loop.k < length loop.sound = omega (arith, loop.invariant.same_length, c.loop-k-test.true) in
    elim c.if-sound-k-eq1.branch [
      | then-sound-k-eq1+then-is_minimal w ↦ rw (w.sound-is, w.count-is) (record {
        within = omega arith;
        fewer = omega (arith, loop.invariant.fewer);
        same_length = loop.invariant.same_length;
        minimal = minimal-stays loop.invariant.minimal w.if-sound-k-eq1.true
            (sym w.is_minimal.ensures ∙ w.if-is_minimal.true);
      })
      | then-sound-k-eq1+else-is_minimal w ↦ rw (w.sound-is, w.count-is) (record {
        within = omega arith;
        fewer = omega (arith, loop.invariant.fewer);
        same_length = simp length-set loop.invariant.same_length;
        minimal = minimal-cleared loop.invariant.minimal l (sym w.is_minimal.ensures ∙ w.if-is_minimal.false);
      })
      | else-sound-k-eq1 w ↦ rw (w.sound-is, w.count-is) (record {
        within = omega arith;
        fewer = omega (arith, loop.invariant.fewer);
        same_length = loop.invariant.same_length;
        minimal = minimal-unsound loop.invariant.minimal w.if-sound-k-eq1.false;
      })
    ]
