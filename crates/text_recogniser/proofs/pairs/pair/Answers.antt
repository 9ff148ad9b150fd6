-- `text_recogniser::pairs::pair` meets its contract: a chain of readers, each on what the one before has left.
use mathlib.Core.Path.{sym, ◌∙◌}
use Rattle.std.proofs.Common.{rules}
use Rattle.text_recogniser.proofs.Chain.{goes-on, breaks-off}
use Rattle.text_recogniser.proofs.PairSteps.{pair-word, pair-name, pair-space, pair-value}
use Rattle.text_recogniser.proofs.pairs.pair.Goals as goal

pub returns-in_err-word : goal.returns-in_err-word
returns-in_err-word c = search (rules, breaks-off pair-word)

pub returns-in_err-any_name : goal.returns-in_err-any_name
returns-in_err-any_name c = search (rules, goes-on pair-word, breaks-off pair-name)

pub returns-in_err-word-2 : goal.returns-in_err-word-2
returns-in_err-word-2 c =
    let bad =
    goes-on pair-word _ c.in_ok-word.ensures c.behind-s.ensures
    ∙ goes-on pair-name _ c.in_ok-any_name.ensures c.behind-s-2.ensures
    ∙ breaks-off pair-space _ c.in_err-word-2.ensures
    in
    search (rules, bad)

pub returns-in_err-value : goal.returns-in_err-value
returns-in_err-value c =
    let bad =
    goes-on pair-word _ c.in_ok-word.ensures c.behind-s.ensures
    ∙ goes-on pair-name _ c.in_ok-any_name.ensures c.behind-s-2.ensures
    ∙ goes-on pair-space _ c.in_ok-word-2.ensures c.behind-s-3.ensures
    ∙ breaks-off pair-value _ c.in_err-value.ensures
    in
    search (rules, bad)

pub returns : goal.returns
returns c =
    c.word-3.ensures
    ∙ sym
    (goes-on pair-word _ c.in_ok-word.ensures c.behind-s.ensures
    ∙ goes-on pair-name _ c.in_ok-any_name.ensures c.behind-s-2.ensures
    ∙ goes-on pair-space _ c.in_ok-word-2.ensures c.behind-s-3.ensures
    ∙ goes-on pair-value _ c.in_ok-value.ensures c.behind-s-4.ensures)
