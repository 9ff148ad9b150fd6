-- `words_block::names::is_legal` meets its contract: the first byte, then all eight.
use mathlib.Core.Path.{sym, ◌∙◌}
use Rattle.theory_encoding.specs.Rules.{name_rule}
use Rattle.words_block.proofs.names.is_legal.Goals as goal

pub returns-then-is_letter : goal.returns-then-is_letter
unfolding name_rule
returns-then-is_letter c =
    let after-byte-at = c in
    rw (← after-byte-at.byte_at.ensures, sym c.is_letter.ensures ∙ c.if-is_letter.true)
    c.is_padded.ensures

pub returns-else-is_letter : goal.returns-else-is_letter
unfolding name_rule
returns-else-is_letter c = rw (← c.byte_at.ensures, ← c.is_letter.ensures, c.if-is_letter.false)
