-- `text_lines::has_lf` meets its contract: where nothing was found, no byte passed is an LF.
use native.Mathlib.Omega.{arith}
use Rattle.text_lines.proofs.Scanning.{no_more}
use Rattle.text_lines.proofs.has_lf.Goals as goal

pub loop-i-preserved : goal.loop-i-preserved
loop-i-preserved c =
    let l = c in
    let a = l.args in
    (omega arith, no_more a.s.now a.at l.loop-i.i l.loop-i.found l.loop-i.invariant.1)
