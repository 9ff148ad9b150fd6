-- `text_recogniser::keywords::word_length` meets its contract: the keyword of the kind's signature, without the zeros
-- at its end.
use mathlib.Core.Path.{ap}
use Rattle.netlist.specs.declared.Signature.{Signature}
use Rattle.text_recogniser.proofs.KeywordLaws.{word_read}
use Rattle.text_recogniser.proofs.keywords.word_length.Goals as goal

pub returns : goal.returns
returns c =
    word_read c.args.kind c.trimmed_length.result _
    (ap (λ (s : Signature). s.keyword) c.signature_of.ensures) c.trimmed_length.ensures.0 c.trimmed_length.ensures.1
