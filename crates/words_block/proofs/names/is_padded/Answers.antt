-- `words_block::names::is_padded` meets its contract: the bytes passed are name bytes, so the rest decides.
use mathlib.Core.Path.{sym, ◌∙◌}
use Rattle.theory_encoding.specs.Rules.{padded}
use Rattle.words_block.proofs.NameLaws.{rest_end, padded-zero, padded-more, padded-fails}
use Rattle.words_block.proofs.names.is_padded.Goals as goal

pub returns-then-c-eq0 : goal.returns-then-c-eq0
returns-then-c-eq0 c =
    let read = c in
    let turn = read in
    c.only_zeros.ensures
    ∙ padded-zero turn.loop-i-test.true read.byte_at-c.ensures turn.loop-i.invariant c.if-c-eq0.true

pub returns-then-not-is_name_byte : goal.returns-then-not-is_name_byte
returns-then-not-is_name_byte c =
    let read = c in
    let turn = read in
    padded-fails turn.loop-i-test.true read.byte_at-c.ensures turn.loop-i.invariant
    c.if-c-eq0.false (sym c.is_name_byte.ensures ∙ c.if-not-is_name_byte.true)

pub loop-i-preserved : goal.loop-i-preserved
loop-i-preserved c =
    let read = c in
    let turn = read in
    padded-more turn.loop-i-test.true read.byte_at-c.ensures turn.loop-i.invariant
    c.if-c-eq0.false (sym c.is_name_byte.ensures ∙ c.if-not-is_name_byte.false)

pub returns : goal.returns
unfolding padded
returns c = rest_end c.loop-i.invariant c.loop-i-test.false
