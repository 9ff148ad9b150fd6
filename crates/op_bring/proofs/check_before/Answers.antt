-- `op_bring::check_before` meets its contract: what the old rules refuse at once, and then what is left.
use mathlib.Core.Path.{refl}
use native.Mathlib.Omega.{arith}
use Rattle.words_refusals.specs.Tests.{test_of}
use Rattle.op_bring.proofs.Words.{malformed-short, malformed-long, malformed-inputs}
use Rattle.op_bring.proofs.check_before.Goals as goal

pub returns-then-old-lt-COUNTS_BEFORE : goal.returns-then-old-lt-COUNTS_BEFORE
unfolding test_of
returns-then-old-lt-COUNTS_BEFORE c = rw (malformed-short c.args.old.now c.if-old-lt-COUNTS_BEFORE.true) refl

pub returns-then-old-ge-BLOCK_WORDS : goal.returns-then-old-ge-BLOCK_WORDS
unfolding test_of
returns-then-old-ge-BLOCK_WORDS c = let s = c in
    rw (malformed-long s.args.old.now (omega arith) (omega arith)) refl

pub returns-then-inputs_of-gt-MAX_INPUTS_BEFORE : goal.returns-then-inputs_of-gt-MAX_INPUTS_BEFORE
unfolding test_of
returns-then-inputs_of-gt-MAX_INPUTS_BEFORE c =
    let s = c in
    rw (malformed-inputs s.args.old.now (omega arith)
    (omega (arith, c.inputs_of.ensures, c.if-inputs_of-gt-MAX_INPUTS_BEFORE.true))) refl
