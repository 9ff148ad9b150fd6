-- `text_pieces::put_keyword` meets its contract: the keyword of the kind's signature, without the zeros at its end.
use Rattle.netlist.specs.Kinds.{keyword}
use Rattle.text_pieces.proofs.put_keyword.Goals as goal

pub put_trimmed-requires : goal.put_trimmed-requires
unfolding keyword
put_trimmed-requires c =
    let after-signature-of = c in
    let read = after-signature-of in rw read.signature_of-signature.ensures read.requires

pub returns : goal.returns
unfolding keyword
returns c =
    let after-signature-of = c in
    let called = c in
    rw (← after-signature-of.signature_of-signature.ensures) called.put_trimmed.ensures
