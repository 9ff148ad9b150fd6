-- `op_line::skip_before` meets its contract: a part without an LF does not change where the line starts.
use mathlib.Core.Path.{◌≡◌, ap, ◌∙◌}
use Prim.Native.Nat.{◌+◌, ◌-◌}
use native.Mathlib.Omega.{arith}
use Rattle.netlist.specs.Line.{start_before}
use Rattle.op_line.proofs.Ends.{start-skip}
use Rattle.op_line.proofs.skip_before.Goals as goal

pub loop-start-preserved : goal.loop-start-preserved
loop-start-preserved c =
    let text = c.args.text.now in
    let first = c.loop-start.start - 64 in
    let e : c.loop-start.start ≡ first + 64 = omega arith in
    let none = c.has_lf.ensures c.if-not-has_lf.true in
    (omega arith, c.loop-start.invariant.1 ∙ ap (start_before text) e ∙ start-skip text first 64 none)
