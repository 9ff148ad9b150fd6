-- `lanes_dual_rail::words::lowest_lane` meets its contract: the zeros below the lowest bit.
use lib.Count.{count_trailing_zeros}
use lib.Dec.{ltb}
use mathlib.Core.Path.{refl}
use Rattle.lanes_dual_rail.proofs.WordLaws.{trailing-least, lane-below}
use Rattle.lanes_dual_rail.proofs.words.lowest_lane.Goals as goal

pub returns : goal.returns
returns c =
    let lane = count_trailing_zeros 64 c.args.word in
    rw (c.then_some.ensures, ← trailing-least c.args.word) (lane-below lane 64 (ltb lane 64) refl)
