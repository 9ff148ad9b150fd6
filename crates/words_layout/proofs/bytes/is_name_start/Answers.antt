-- `words_layout::bytes::is_name_start` meets its contract: a letter, or else `_`.
use mathlib.Core.Path.{sym, ◌∙◌}
use Rattle.netlist.specs.Names.{is_name_start, is_underscore}
use Rattle.words_layout.proofs.bytes.is_name_start.Goals as goal

pub returns-then-is_letter : goal.returns-then-is_letter
unfolding is_name_start
returns-then-is_letter c = rw (sym c.is_letter.ensures ∙ c.if-is_letter.true)

pub returns-else-is_letter : goal.returns-else-is_letter
unfolding is_name_start is_underscore
returns-else-is_letter c = rw (sym c.is_letter.ensures ∙ c.if-is_letter.false)
