-- `tables::join_halves` meets its contract: what it reads stands below what it writes.
use native.Mathlib.Omega.{arith}
use Rattle.op_cover.proofs.Joining.{joined-next}
use Rattle.op_cover.proofs.tables.join_halves.Goals as goal

pub loop-j-preserved : goal.loop-j-preserved
loop-j-preserved c =
    let entry = c in
    let loop = c.loop-j in
    let pre = entry.requires in
    (omega arith, joined-next loop.invariant.1 pre.0 (omega (arith, loop.invariant.1.same_length, pre.1)) (omega arith))
