-- `unroll_depth::group::more_passes` meets its contract: each turn makes a pass that some setting needs.
use mathlib.Core.Path.{refl}
use Prim.Native.Nat.{◌+◌, ◌≤◌}
use native.Mathlib.Omega.{arith}
use Rattle.netlist.specs.Limits.{max_copies}
use Rattle.unroll_depth.proofs.GroupLaws.{group-there, group-nodes, passed-proper}
use Rattle.unroll_depth.proofs.PassLaws.{batch-few, size-some, sofar-small}
use Rattle.unroll_depth.proofs.PassLaws.{passing-more, passing-done}
use Rattle.unroll_depth.proofs.group.more_passes.Goals.{After-lacks}
use Rattle.unroll_depth.proofs.group.more_passes.Goals as goal

-- the passes and the copies fit
small : (d : After-lacks) → d.loop-total.passes ≤ max_copies + max_copies
small d = let l = d in sofar-small (size-some l.requires.batch) l.loop-total.invariant.so_far

pub lacks-requires : goal.lacks-requires
lacks-requires c =
    let l = c in
    let r = l.requires in
    let g = r.batch in
    record {
      batch = (batch-few g, g.aligned);
      proper_at = (passed-proper (group-there g) l.loop-total.invariant.passed, r.kept.proper);
    }

pub loop-total-preserved : goal.loop-total-preserved
loop-total-preserved c =
    let t = c in
    let d = t in
    let l = d in
    let r = l.requires in
    passing-more r.batch r.kept l.loop-total.invariant refl (omega (arith, d.loop-total-test.true))
    (rw t.if-lacks.true at d.lacks.ensures) c.sweep_part.ensures

pub returns-else-lacks : goal.returns-else-lacks
returns-else-lacks c =
    let d = c in
    let l = d in
    let r = l.requires in
    passing-done r.batch r.kept l.loop-total.invariant r.passed (λ few. rw c.if-lacks.false at d.lacks.ensures)

pub returns-after-loop-total : goal.returns-after-loop-total
returns-after-loop-total c =
    let l = c in
    let r = l.requires in
    passing-done r.batch r.kept l.loop-total.invariant r.passed (λ few. absurd (omega (arith, c.loop-total-test.false)))

pub sweep_part-requires : goal.sweep_part-requires
sweep_part-requires c = group-nodes c.requires.batch

pub overflow_add-passes : goal.overflow_add-passes
overflow_add-passes c = omega (arith, small (goal.at.overflow_add-passes c).After-lacks)
