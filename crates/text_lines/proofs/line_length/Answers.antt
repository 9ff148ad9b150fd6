-- `text_lines::line_length` meets its contract: the bytes passed and the rest of the line are the line.
use mathlib.Core.Path.{◌≡◌, sym, ◌∙◌}
use native.Mathlib.Omega.{arith}
use lib.ListN.{length}
use Rattle.text_lines.proofs.Scanning.{length_more, length_last, length-end}
use Rattle.text_lines.proofs.line_length.Goals as goal

pub returns-then-s-i-eq10 : goal.returns-then-s-i-eq10
returns-then-s-i-eq10 c =
    let at-loop = c in
    let start = at-loop in
    let l = at-loop.loop-i in length_last start.args.s.now l.i (omega arith) c.if-s-i-eq10.true l.invariant.1

pub loop-i-preserved : goal.loop-i-preserved
loop-i-preserved c =
    let at-loop = c in
    let start = at-loop in
    let l = at-loop.loop-i in
    (omega arith, length_more start.args.s.now l.i (omega arith) c.if-s-i-eq10.false l.invariant.1)

pub returns : goal.returns
returns c =
    let s = c.args.s.now in
    let l = c.loop-i in
    let e : l.i ≡ length s = omega arith in
    sym e ∙ length-end s l.i l.i (omega arith) l.invariant.1
