-- `lanes_dual_rail::words::count_lanes` meets its contract.
use native.Mathlib.Omega.{arith}
use lib.Count.{ones-le}
use Rattle.lanes_dual_rail.proofs.WordLaws.{ones-count}
use Rattle.lanes_dual_rail.proofs.words.count_lanes.Goals as goal

pub returns : goal.returns
returns c = ones-count 64 c.args.word c.ranges.word.fits
