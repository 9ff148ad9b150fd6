-- `words_layout::kinds::most_operands` meets its contract: the count that the kind's signature holds.
use mathlib.Core.Path.{ap}
use Rattle.netlist.specs.declared.Signature.{Signature}
use Rattle.netlist.specs.Kinds.{most_operands}
use Rattle.words_layout.proofs.kinds.most_operands.Goals as goal

pub returns : goal.returns
unfolding most_operands
returns c = ap (λ (s : Signature). s.most) c.signature_of.ensures
