-- `text_recogniser::lines::output_line` meets its contract: a chain of readers, each on what the one before has left.
use mathlib.Core.Path.{sym, ◌∙◌}
use Rattle.std.proofs.Common.{rules}
use Rattle.text_recogniser.proofs.Chain.{goes-on, breaks-off}
use Rattle.text_recogniser.proofs.LineSteps.{output-word, output-port, output-space, output-shown}
use Rattle.text_recogniser.proofs.lines.output_line.Goals as goal

pub returns-in_err-word : goal.returns-in_err-word
returns-in_err-word c = search (rules, breaks-off output-word)

pub returns-in_err-pin_name : goal.returns-in_err-pin_name
returns-in_err-pin_name c = search (rules, goes-on output-word, breaks-off output-port)

pub returns-in_err-word-2 : goal.returns-in_err-word-2
returns-in_err-word-2 c =
    let bad =
    goes-on output-word _ c.in_ok-word.ensures c.behind-s.ensures
    ∙ goes-on output-port _ c.in_ok-pin_name.ensures c.behind-s-2.ensures
    ∙ breaks-off output-space _ c.in_err-word-2.ensures
    in
    search (rules, bad)

pub returns-in_err-any_name : goal.returns-in_err-any_name
returns-in_err-any_name c =
    let bad =
    goes-on output-word _ c.in_ok-word.ensures c.behind-s.ensures
    ∙ goes-on output-port _ c.in_ok-pin_name.ensures c.behind-s-2.ensures
    ∙ goes-on output-space _ c.in_ok-word-2.ensures c.behind-s-3.ensures
    ∙ breaks-off output-shown _ c.in_err-any_name.ensures
    in
    search (rules, bad)

pub returns : goal.returns
returns c =
    c.word-3.ensures
    ∙ sym
    (goes-on output-word _ c.in_ok-word.ensures c.behind-s.ensures
    ∙ goes-on output-port _ c.in_ok-pin_name.ensures c.behind-s-2.ensures
    ∙ goes-on output-space _ c.in_ok-word-2.ensures c.behind-s-3.ensures
    ∙ goes-on output-shown _ c.in_ok-any_name.ensures c.behind-s-4.ensures)
