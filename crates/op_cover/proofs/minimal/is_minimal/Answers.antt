-- `minimal::is_minimal` meets its contract: each input passed is free or needed (`Scanned`); one that can be dropped
-- decides at once.
use mathlib.Core.Path.{◌≡◌}
use Prim.Native.Nat.{◌+◌, ◌-◌, ◌*◌, ◌%◌, ◌^◌, ◌≤◌, ◌<◌}
use native.Mathlib.Omega.{arith}
use lib.ListN.{length}
use Rattle.op_cover.proofs.Bounds.{three-grows, power-next}
use Rattle.op_cover.proofs.Dropping.{freed-lt, scan-next, needed-free, needed-fixed}
use Rattle.op_cover.proofs.Dropping.{not-minimal, scan-all}
use Rattle.op_cover.proofs.minimal.is_minimal.Goals.{Then-digit-ne2}
use Rattle.op_cover.proofs.minimal.is_minimal.Goals.{then-digit-ne2+else-sound-k-eq1, else-digit-ne2}
use Rattle.op_cover.proofs.minimal.is_minimal.Goals as goal

-- with the input of this turn free, the number is one of the table
in_table : (c : Then-digit-ne2)
    → (c.args.k + (2 - c.loop-i.rest % 3) * c.loop-i.power
    < 3 ^ c.args.n)
    × (length c.args.sound.now ≡ 3 ^ c.args.n)
in_table c = (freed-lt c.loop-i.invariant c.loop-i-test.true c.requires.0, c.requires.1)

pub overflow_mul-power : goal.overflow_mul-power
overflow_mul-power c =
    let i = c.loop-i.i in
    let next : 3 ^ (i + 1) ≤ 3 ^ c.args.n = three-grows {i = i + 1} (omega (arith, c.loop-i-test.true)) in
    omega (arith, power-next 3 i c.loop-i.invariant.power-is, next, c.requires.1, c.well_formed)

pub loop-i-preserved : goal.loop-i-preserved
loop-i-preserved c =
    let s = c.loop-i.invariant in
    let l = c.loop-i-test.true in
    scan-next s l (elim c.if-digit-ne2.branch [
      | then-digit-ne2+else-sound-k-eq1 w ↦ needed-fixed s l w.if-digit-ne2.true w.if-sound-k-eq1.false
      | else-digit-ne2 w ↦ needed-free s l w.if-digit-ne2.false
    ])

pub overflow_mul-digit : goal.overflow_mul-digit
overflow_mul-digit c = omega (arith, in_table (goal.at.overflow_mul-digit c).Then-digit-ne2, c.well_formed)

pub overflow_add-k : goal.overflow_add-k
overflow_add-k c = omega (arith, in_table (goal.at.overflow_add-k c).Then-digit-ne2, c.well_formed)

pub bounds-sound-k : goal.bounds-sound-k
bounds-sound-k c = omega (arith, in_table (goal.at.bounds-sound-k c).Then-digit-ne2, c.well_formed)

pub returns-then-sound-k-eq1 : goal.returns-then-sound-k-eq1
returns-then-sound-k-eq1 c = search not-minimal

pub returns : goal.returns
returns c = search scan-all
