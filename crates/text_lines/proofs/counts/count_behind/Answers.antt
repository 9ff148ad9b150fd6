-- `text_lines::counts::count_behind` meets its contract: what was counted and what is left to count are the whole
-- count.
use Prim.Native.Nat.{◌+◌, ◌-◌}
use mathlib.Core.Path.{◌≡◌}
use native.Mathlib.Omega.{arith}
use lib.ListN.{get_or}
use lib.Dec.{eqb}
use Rattle.text_lines.proofs.Behind.{both-le, behind_more, behind-end, behind-le}
use Rattle.text_lines.proofs.counts.count_behind.Goals as goal

pub overflow_mul-n : goal.overflow_mul-n
overflow_mul-n c =
    let at_one = c in
    let at-loop = at_one in
    let a = at-loop.args in
    let i = at-loop.loop-i.i in
    let h =
    both-le (eqb (get_or a.s.now (i - 1) 0) a.a) (eqb (get_or a.s.now i 0) a.b) _ _ at_one.one_if.ensures
    c.one_if-in-loop-i.ensures in
    omega arith

pub overflow_cast-n : goal.overflow_cast-n
overflow_cast-n c =
    let at_one = c in
    let at-loop = at_one in
    let a = at-loop.args in
    let i = at-loop.loop-i.i in
    let h =
    both-le (eqb (get_or a.s.now (i - 1) 0) a.a) (eqb (get_or a.s.now i 0) a.b) _ _ at_one.one_if.ensures
    c.one_if-in-loop-i.ensures in
    omega arith

pub overflow_add-n : goal.overflow_add-n
overflow_add-n c =
    let at_one = c in
    let at-loop = at_one in
    let a = at-loop.args in
    let l = at-loop.loop-i in
    let h =
    behind_more a.s.now l.i (omega arith) (omega arith) a.a a.b l.n _ _ l.invariant.counts
    at_one.one_if.ensures c.one_if-in-loop-i.ensures in
    omega (arith, behind-le a.a a.b a.s.now)

pub loop-i-preserved : goal.loop-i-preserved
loop-i-preserved c =
    let at_one = c in
    let at-loop = at_one in
    let a = at-loop.args in
    let l = at-loop.loop-i in
    let h =
    behind_more a.s.now l.i (omega arith) (omega arith) a.a a.b l.n _ _ l.invariant.counts
    at_one.one_if.ensures c.one_if-in-loop-i.ensures in
    let e : l.i + 1 - 1 ≡ l.i = omega arith in
    record { some = omega arith; counts = rw e h }

pub overflow_cast-result : goal.overflow_cast-result
overflow_cast-result c =
    let at-loop = c in
    let a = at-loop.args in
    omega (arith, behind-le a.a a.b a.s.now, at-loop.loop-i.invariant.counts)

pub returns : goal.returns
returns c =
    let at-loop = c in
    let a = at-loop.args in
    let l = at-loop.loop-i in
    behind-end a.s.now l.i l.n a.a a.b (omega arith) (omega arith) l.invariant.counts
