-- `words_refusals::refuse_if` meets its contract.
use Rattle.words_refusals.specs.Tests.{test_of}
use Rattle.words_refusals.proofs.refuse_if.Goals as goal

pub returns-then-holds : goal.returns-then-holds
unfolding test_of
returns-then-holds c = rw c.if-holds.true

pub returns : goal.returns
unfolding test_of
returns c = rw c.if-holds.false
