-- `text_recogniser::form` meets its contract: a line that was read leaves less, and where none is left the text is
-- legal.
use mathlib.Core.Path.{sym, ap, ◌∙◌}
use Rattle.text_recogniser.specs.Scan.{phase_of}
use Rattle.text_recogniser.proofs.Reached.{reached-start, reached-next, reached-stuck, reached-end}
use Rattle.text_recogniser.proofs.Reached.{left-less, line-stuck}
use Rattle.text_recogniser.proofs.form.Goals as goal

pub loop-rest-init : goal.loop-rest-init
loop-rest-init c = reached-start c.args.text.now

pub loop-rest-smaller : goal.loop-rest-smaller
loop-rest-smaller c =
    left-less c.args.text.now c.loop-rest.phase c.loop-rest.rest.now c.loop-rest.invariant
    c.loop-rest-test.ensures c.in-Ok.ensures c.behind-rest.ensures

pub loop-rest-preserved : goal.loop-rest-preserved
loop-rest-preserved c =
    rw (c.phase_of-phase.ensures ∙ ap phase_of c.byte_at.ensures)
    (reached-next c.args.text.now c.loop-rest.phase c.loop-rest.rest.now c.loop-rest.invariant
    c.loop-rest-test.ensures c.in-Ok.ensures c.behind-rest.ensures)

pub overflow_sub-result : goal.overflow_sub-result
overflow_sub-result c =
    line-stuck c.args.text.now c.loop-rest.phase c.loop-rest.rest.now c.loop-rest.invariant
    c.loop-rest-test.ensures c.in-Err.ensures

pub returns-in-Err : goal.returns-in-Err
returns-in-Err c =
    sym (reached-stuck c.args.text.now c.loop-rest.phase c.loop-rest.rest.now c.loop-rest.invariant
    c.loop-rest-test.ensures c.in-Err.ensures)

pub returns : goal.returns
returns c =
    sym (reached-end c.args.text.now c.loop-rest.phase c.loop-rest.rest.now c.loop-rest.invariant
    c.loop-rest-test.ensures)
