-- `lanes_dual_rail::evaluate::parity_of_two` meets its contract.
use mathlib.Core.Path.{refl}
use Rattle.lanes_dual_rail.specs.Pairs.{parity_pair}
use Rattle.lanes_dual_rail.proofs.evaluate.parity_of_two.Goals as goal

pub returns : goal.returns
unfolding parity_pair
returns c = refl
