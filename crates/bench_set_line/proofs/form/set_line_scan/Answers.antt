-- `bench_set_line::form::set_line_scan` meets its contract: a chain of readers, each on what the one before has left,
-- and nothing behind the last. Assumes nothing.
use mathlib.Core.Path.{sym, ◌∙◌}
use Rattle.std.proofs.Common.{rules}
use Rattle.text_recogniser.proofs.Chain.{goes-on, breaks-off}
use Rattle.bench_set_line.proofs.LineSteps.{set_word, set-pairs, last_word, line-over, line-goes-on}
use Rattle.bench_set_line.proofs.form.set_line_scan.Goals as goal

pub returns-in_err-word : goal.returns-in_err-word
returns-in_err-word c = search (rules, breaks-off (set_word c.args.most))

pub returns-in_err-pairs : goal.returns-in_err-pairs
returns-in_err-pairs c = search (rules, goes-on (set_word c.args.most), breaks-off (set-pairs c.args.most))

pub returns-in_err-left : goal.returns-in_err-left
returns-in_err-left c =
    let bad =
    goes-on (set_word c.args.most) _ c.in_ok-word.ensures c.behind-s.ensures
    ∙ goes-on (set-pairs c.args.most) _ c.in_ok-pairs.ensures c.behind-s-2.ensures
    ∙ breaks-off last_word _ c.in_err-left.ensures
    in
    search (rules, bad)

pub returns-then-left-eq0 : goal.returns-then-left-eq0
returns-then-left-eq0 c =
    sym
    (goes-on (set_word c.args.most) _ c.in_ok-word.ensures c.behind-s.ensures
    ∙ goes-on (set-pairs c.args.most) _ c.in_ok-pairs.ensures c.behind-s-2.ensures
    ∙ line-over _ c.in_ok-left.ensures c.if-left-eq0.true)

pub returns-else-left-eq0 : goal.returns-else-left-eq0
returns-else-left-eq0 c =
    sym
    (goes-on (set_word c.args.most) _ c.in_ok-word.ensures c.behind-s.ensures
    ∙ goes-on (set-pairs c.args.most) _ c.in_ok-pairs.ensures c.behind-s-2.ensures
    ∙ line-goes-on _ c.in_ok-left.ensures c.if-left-eq0.false)
