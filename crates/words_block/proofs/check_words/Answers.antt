-- `words_block::check_words` meets its contract: words are malformed exactly when they break a rule (`intact-torn` of
-- `theory_encoding`).
use mathlib.Core.Path.{refl}
use Rattle.theory_encoding.proofs.Intact.{intact-torn}
use Rattle.words_refusals.specs.Tests.{test_of}
use Rattle.words_block.proofs.check_words.Goals as goal

pub returns-then-not-is_intact-clause-tested : goal.returns-then-not-is_intact-clause-tested
unfolding test_of
returns-then-not-is_intact-clause-tested c =
    rw (intact-torn c.args.words.now, ← c.is_intact.ensures, c.if-not-is_intact.true) refl

pub invariant_of-result : goal.invariant_of-result
invariant_of-result c =
    record { well_formed = rw (intact-torn c.args.words.now, ← c.is_intact.ensures, c.if-not-is_intact.false) refl }

pub returns-clause-tested : goal.returns-clause-tested
unfolding test_of
returns-clause-tested c = rw (intact-torn c.args.words.now, ← c.is_intact.ensures, c.if-not-is_intact.false) refl
