-- `text_recogniser::lines::input_line` meets its contract: a chain of readers, each on what the one before has left.
use mathlib.Core.Path.{sym, ◌∙◌}
use Rattle.std.proofs.Common.{rules}
use Rattle.text_recogniser.proofs.Chain.{goes-on, breaks-off}
use Rattle.text_recogniser.proofs.LineSteps.{input-word, input-name}
use Rattle.text_recogniser.proofs.lines.input_line.Goals as goal

pub returns-in_err-word : goal.returns-in_err-word
returns-in_err-word c = search (rules, breaks-off input-word)

pub returns-in_err-pin_name : goal.returns-in_err-pin_name
returns-in_err-pin_name c = search (rules, goes-on input-word, breaks-off input-name)

pub returns : goal.returns
returns c =
    c.word-2.ensures
    ∙ sym
    (goes-on input-word _ c.in_ok-word.ensures c.behind-s.ensures
    ∙ goes-on input-name _ c.in_ok-pin_name.ensures c.behind-s-2.ensures)
