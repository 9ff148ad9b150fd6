-- `words_layout::kinds::signature_of` meets its contract: `not`, `xor`, `xnor`, or what the kind's row holds.
use mathlib.Core.Path.{◌∙◌, ap}
use Rattle.netlist.specs.Kinds.{signature, signature_in}
use Rattle.words_layout.proofs.KindLaws.{another, signature-not, signature-xor, signature-xnor, signature-row}
use Rattle.words_layout.proofs.kinds.signature_of.Goals as goal

pub returns-then-kind-eq0 : goal.returns-then-kind-eq0
unfolding signature
returns-then-kind-eq0 c = signature-not c.args.kind c.if-kind-eq0.true

pub returns-then-kind-eq5 : goal.returns-then-kind-eq5
unfolding signature
returns-then-kind-eq5 c = signature-xor c.args.kind c.if-kind-eq5.true

pub returns-then-kind-eq6 : goal.returns-then-kind-eq6
unfolding signature
returns-then-kind-eq6 c = signature-xnor c.args.kind c.if-kind-eq6.true

pub returns : goal.returns
unfolding signature_in
returns c =
    let read = c in
    let asked = read in
    let kind = asked.args.kind in
    let low = another kind asked.if-kind-eq0.false in
    ap signature_in (read.row_of-row.ensures low) ∙ signature-row kind low asked.if-kind-eq5.false asked.if-kind-eq6.false
