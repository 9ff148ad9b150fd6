-- `text_lines::count` meets its contract: what was counted and what is left to count are the whole count.
use Prim.Native.Nat.{◌≤◌}
use native.Mathlib.Omega.{arith}
use lib.ListN.{get_or}
use lib.Dec.{eqb}
use Rattle.text_lines.proofs.Scanning.{times_more, times-end, one-le}
use Rattle.text_lines.proofs.count.Goals.{After-one_if}
use Rattle.text_lines.proofs.count.Goals as goal

adds : (c : After-one_if) → c.one_if.result ≤ 1
adds c =
    let a = c.args in
    omega (arith, c.one_if.ensures, one-le (eqb (get_or a.s.now c.loop-x.x-index 0) a.b))

pub loop-x-preserved : goal.loop-x-preserved
loop-x-preserved c =
    let a = c.args in
    let l = c.loop-x in
    record {
      within = omega arith;
      few = omega (arith, adds (goal.at.loop-x-preserved c).After-one_if, l.invariant.few);
      left =
          times_more a.s.now l.x-index (omega arith) a.b l.n c.one_if.result l.invariant.left
          c.one_if.ensures;
    }

pub returns : goal.returns
returns c =
    let l = c.loop-x in
    let a = c.args in
    times-end a.s.now l.x-index l.n (omega arith) a.b l.invariant.left
