-- `bench_session::line_part::end_line` meets its contract: a line that is not empty is answered. Assumes nothing.
use Rattle.bench_session.proofs.LineSteps.{no-last-line, last-line, nonzero}
use native.Mathlib.Omega.{arith}
use lib.ListN.{take}
use lib.Seq.{length-take-le}
use Rattle.bench_session.proofs.line_part.end_line.Goals as goal

pub returns-then-held-eq0 : goal.returns-then-held-eq0
returns-then-held-eq0 c =
    let x = c.args in
    rw c.if-held-eq0.true (no-last-line (take x.block.count x.block.words.now) x.line.now _)

pub returns : goal.returns
returns c =
    let some = nonzero c.args.held c.if-held-eq0.false in
    let kept = length-take-le c.args.held c.args.line.now
    (omega (arith, c.requires.few, c.requires.line_room)) in
    last-line _ _ _ _ (omega (arith, kept, some)) c.answer.ensures
