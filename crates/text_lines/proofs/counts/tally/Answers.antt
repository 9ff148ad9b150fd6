-- `text_lines::counts::tally` meets its contract, by the law on the counts of bytes.
use mathlib.Core.Path.{◌∙◌}
use Rattle.text_lines.proofs.TreeCounts.{counts-are}
use Rattle.text_lines.proofs.counts.tally.Goals as goal

pub returns : goal.returns
returns c = λ t text p e f g. c.count_bytes.ensures ∙ counts-are p _ _ _ e f g
