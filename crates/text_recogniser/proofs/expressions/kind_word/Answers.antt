-- `text_recogniser::expressions::kind_word` meets its contract: the keyword of the kind's signature, without the zeros
-- at its end, is read as any word is.
use mathlib.Core.Path.{ap}
use Rattle.netlist.specs.declared.Signature.{Signature}
use Rattle.text_recogniser.proofs.KindWords.{keyword-read}
use Rattle.text_recogniser.proofs.expressions.kind_word.Goals as goal

pub returns : goal.returns
returns c =
    keyword-read c.args.kind c.trimmed_length.result _ c.args.s.now
    (ap (λ (s : Signature). s.keyword) c.signature_of.ensures) c.trimmed_length.ensures.1 c.word.ensures
