-- `text_lines::skip_parts` meets its contract: a part without an LF and what is left of the line are the line.
use native.Mathlib.Omega.{arith}
use Rattle.text_lines.proofs.Scanning.{length-skip}
use Rattle.text_lines.proofs.skip_parts.Goals as goal

pub loop-i-preserved : goal.loop-i-preserved
loop-i-preserved c =
    let l = c in
    let none = c.has_lf.ensures c.if-has_lf.false in
    (omega arith, length-skip l.args.s.now l.loop-i.i 16 (omega arith) none l.loop-i.invariant.1)
