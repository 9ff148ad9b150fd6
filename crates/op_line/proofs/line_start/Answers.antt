-- `op_line::line_start` meets its contract. The loop goes down from the part that has the LF; its invariant: the start
-- among the first i bytes is the start.
use mathlib.Core.Path.{◌≡◌, sym, ap, ◌∙◌}
use Prim.Native.Nat.{◌-◌, ◌+◌}
use native.Mathlib.Omega.{arith}
use Rattle.netlist.specs.Line.{start_before, line_start}
use Rattle.op_line.proofs.Ends.{start-at, start-before, clamped-le}
use Rattle.op_line.proofs.line_start.Goals as goal

pub skip_before-end-requires : goal.skip_before-end-requires
skip_before-end-requires c = rw c.clamp.ensures (clamped-le c.args.text.now c.args.place)

pub loop-i-init : goal.loop-i-init
unfolding line_start
loop-i-init c = ap (start_before c.args.text.now) (sym c.clamp.ensures) ∙ c.skip_before-end.ensures.1

pub returns-then-text-i-eq10 : goal.returns-then-text-i-eq10
returns-then-text-i-eq10 c =
    let e : c.loop-i.i - 1 + 1 ≡ c.loop-i.i = omega arith in
    e ∙ sym (c.loop-i.invariant ∙ start-at c.args.text.now c.loop-i.i c.loop-i-test.true c.if-text-i-eq10.true)

pub loop-i-preserved : goal.loop-i-preserved
loop-i-preserved c =
    c.loop-i.invariant ∙ start-before c.args.text.now c.loop-i.i c.loop-i-test.true c.if-text-i-eq10.false

pub returns : goal.returns
unfolding start_before
returns c =
    let z : c.loop-i.i ≡ 0 = omega arith in
    sym (c.loop-i.invariant ∙ ap (start_before c.args.text.now) z)
