-- `words_layout::kinds::fewest_operands` meets its contract: the count that the kind's signature holds.
use mathlib.Core.Path.{ap}
use Rattle.netlist.specs.declared.Signature.{Signature}
use Rattle.netlist.specs.Kinds.{fewest_operands}
use Rattle.words_layout.proofs.kinds.fewest_operands.Goals as goal

pub returns : goal.returns
unfolding fewest_operands
returns c = ap (λ (s : Signature). s.fewest) c.signature_of.ensures
