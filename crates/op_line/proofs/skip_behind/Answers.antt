-- `op_line::skip_behind` meets its contract: a part without an LF does not change where the line ends.
use mathlib.Core.Path.{◌∙◌}
use native.Mathlib.Omega.{arith}
use Rattle.op_line.proofs.Ends.{end-skip}
use Rattle.op_line.proofs.skip_behind.Goals as goal

pub loop-end-preserved : goal.loop-end-preserved
loop-end-preserved c =
    let none = c.has_lf.ensures c.if-not-has_lf.true in
    (omega arith, c.loop-end.invariant.1 ∙ end-skip c.args.text.now c.loop-end.end 64 (omega arith) none)
