-- `lanes_dual_rail::evaluate::pair_at` meets its contract.
use mathlib.Core.Path.{refl}
use Rattle.lanes_dual_rail.specs.LaneWords.{pair_at}
use borrow.Author.Rules.{rules}
use Rattle.lanes_dual_rail.proofs.evaluate.pair_at.Goals as goal

pub returns : goal.returns
unfolding pair_at
returns c = refl
