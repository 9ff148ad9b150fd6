-- `lanes_dual_rail::evaluate::rule_pair` meets its contract, by the forced value.
use borrow.Author.Tests.{ne_eqb}
use Rattle.lanes_dual_rail.specs.LaneWords.{rule_pair}
use Rattle.lanes_dual_rail.proofs.evaluate.rule_pair.Goals as goal

pub returns-then-forced-eq0 : goal.returns-then-forced-eq0
unfolding rule_pair
returns-then-forced-eq0 c = let e = c in rw c.if-forced-eq0.true (cc (e.some_word-some.ensures, e.every_word-every.ensures))

pub returns : goal.returns
unfolding rule_pair
returns c =
    let e = c in
    let s = e in
    rw (ne_eqb s.args.forced 0 c.if-forced-eq0.false) (cc (e.some_word-some.ensures, e.every_word-every.ensures))
