-- `lanes_dual_rail::evaluate::put_pair` meets its contract.
use mathlib.Core.Path.{refl}
use Rattle.lanes_dual_rail.specs.LaneWords.{put_pair}
use borrow.Author.Rules.{rules}
use Rattle.lanes_dual_rail.proofs.evaluate.put_pair.Goals as goal

pub returns : goal.returns
unfolding put_pair
returns c = refl
