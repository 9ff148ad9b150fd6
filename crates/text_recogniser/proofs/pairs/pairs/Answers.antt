-- `text_recogniser::pairs::pairs` meets its contract: one law for each way through a turn.
use mathlib.Core.Path.{sym, ◌∙◌}
use native.Mathlib.Omega.{arith}
use Rattle.std.proofs.Common.{rules}
use Rattle.text_recogniser.proofs.PairSteps.{pairs_end, left-closed, left-needed, left-bad, left-next}
use Rattle.text_recogniser.proofs.pairs.pairs.Goals as goal

pub returns-in-41 : goal.returns-in-41
returns-in-41 c =
    left-needed c.args.s.now c.loop-i.rest.now c.args.most c.args.needed c.loop-i.i c.loop-i.invariant
    c.loop-i-test.true c.byte_at.ensures c.in-41.is c.if-i-needed.true

pub returns-in-41-2 : goal.returns-in-41-2
returns-in-41-2 c =
    left-closed c.args.s.now c.loop-i.rest.now c.args.most c.args.needed c.loop-i.i c.loop-i.invariant
    c.loop-i-test.true c.byte_at.ensures c.in-41.is c.if-i-needed.false

pub returns-in_err-pair-in_default : goal.returns-in_err-pair-in_default
returns-in_err-pair-in_default c =
    let bad = left-bad c.args.s.now c.loop-i.rest.now c.args.most c.args.needed c.loop-i.i c.loop-i.invariant
    c.loop-i-test.true c.byte_at.ensures (λ e. omega arith) c.in_err-pair-in_default.ensures in
    search (rules, bad)

pub loop-i-preserved : goal.loop-i-preserved
loop-i-preserved c =
    left-next c.args.s.now c.loop-i.rest.now c.args.most c.args.needed c.loop-i.i c.loop-i.invariant
    c.loop-i-test.true c.byte_at.ensures (λ e. omega arith) c.in_ok-pair-in_default.ensures c.behind-rest.ensures

pub returns : goal.returns
returns c =
    c.word.ensures
    ∙ sym (pairs_end c.args.s.now c.loop-i.rest.now c.args.most c.args.needed c.loop-i.i c.loop-i.invariant
    c.loop-i-test.false)
