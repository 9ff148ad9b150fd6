-- `words_block::nevers::fits` meets its contract: some input is fixed, and the two words are masks.
use borrow.Author.Tests.{lt-ltb, le-ltb}
use Rattle.theory_encoding.specs.Rules.{never_rule}
use Rattle.words_block.proofs.nevers.fits.Goals as goal

pub returns-then-fixed-gt0 : goal.returns-then-fixed-gt0
unfolding never_rule
returns-then-fixed-gt0 c =
    let after-word-at = c in
    rw (← after-word-at.word_at-fixed.ensures, ← c.word_at.ensures, lt-ltb 0 _ c.if-fixed-gt0.true)
    c.are_masks.ensures

pub returns-else-fixed-gt0 : goal.returns-else-fixed-gt0
unfolding never_rule
returns-else-fixed-gt0 c = rw (← c.word_at-fixed.ensures, le-ltb 0 _ c.if-fixed-gt0.false)
