-- `text_recogniser::lines::gate_line` meets its contract: a chain of readers, each on what the one before has left.
use mathlib.Core.Path.{sym, ◌∙◌}
use Rattle.std.proofs.Common.{rules}
use Rattle.text_recogniser.specs.Scan.{expression_reader}
use Rattle.text_recogniser.proofs.Chain.{goes-on, breaks-off}
use Rattle.text_recogniser.proofs.LineSteps.{gate-word, gate-name, gate-bracket, gate-expression}
use Rattle.text_recogniser.proofs.lines.gate_line.Goals as goal

pub returns-in_err-word : goal.returns-in_err-word
returns-in_err-word c = search (rules, breaks-off gate-word)

pub returns-in_err-any_name : goal.returns-in_err-any_name
returns-in_err-any_name c = search (rules, goes-on gate-word, breaks-off gate-name)

pub returns-in_err-word-2 : goal.returns-in_err-word-2
returns-in_err-word-2 c =
    let bad =
    goes-on gate-word _ c.in_ok-word.ensures c.behind-s.ensures
    ∙ goes-on gate-name _ c.in_ok-any_name.ensures c.behind-s-2.ensures
    ∙ breaks-off gate-bracket _ c.in_err-word-2.ensures
    in
    search (rules, bad)

pub returns-in_err-expression : goal.returns-in_err-expression
unfolding expression_reader
returns-in_err-expression c =
    let bad =
    goes-on gate-word _ c.in_ok-word.ensures c.behind-s.ensures
    ∙ goes-on gate-name _ c.in_ok-any_name.ensures c.behind-s-2.ensures
    ∙ goes-on gate-bracket _ c.in_ok-word-2.ensures c.behind-s-3.ensures
    ∙ breaks-off gate-expression _ c.in_err-expression.ensures
    in
    search (rules, bad)

pub returns : goal.returns
unfolding expression_reader
returns c =
    c.word-3.ensures
    ∙ sym
    (goes-on gate-word _ c.in_ok-word.ensures c.behind-s.ensures
    ∙ goes-on gate-name _ c.in_ok-any_name.ensures c.behind-s-2.ensures
    ∙ goes-on gate-bracket _ c.in_ok-word-2.ensures c.behind-s-3.ensures
    ∙ goes-on gate-expression _ c.in_ok-expression.ensures c.behind-s-4.ensures)
