-- `text_recogniser::lines::never_line` meets its contract: a chain of readers, each on what the one before has left.
use mathlib.Core.Path.{sym, ◌∙◌}
use Rattle.std.proofs.Common.{rules}
use Rattle.netlist.specs.Parse.{never_pairs}
use Rattle.text_recogniser.proofs.Chain.{goes-on, breaks-off}
use Rattle.text_recogniser.proofs.LineSteps.{never-word, never-pairs}
use Rattle.text_recogniser.proofs.lines.never_line.Goals as goal

pub returns-in_err-word : goal.returns-in_err-word
returns-in_err-word c = search (rules, breaks-off never-word)

pub returns-in_err-pairs : goal.returns-in_err-pairs
unfolding never_pairs
returns-in_err-pairs c = search (rules, goes-on never-word, breaks-off never-pairs)

pub returns : goal.returns
unfolding never_pairs
returns c =
    c.word-2.ensures
    ∙ sym
    (goes-on never-word _ c.in_ok-word.ensures c.behind-s.ensures
    ∙ goes-on never-pairs _ c.in_ok-pairs.ensures c.behind-s-2.ensures)
