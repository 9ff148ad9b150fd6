-- `lanes_settings::outputs::any_lanes` meets its contract: after o turns it has the lanes of the first o outputs.
use Rattle.std.proofs.Common.{◌≡◌, ℕ, suc, ◌≤◌}
use lib.Bits.{bit_or}
use Rattle.lanes_settings.proofs.outputs.any_lanes.Given as goal

abbrev pub invariant-loop-o : goal.invariant-loop-o
invariant-loop-o g l =
    (l.o ≤ l.count)
    × ((below : ℕ → ℕ) → below 0 ≡ 0
    → ((o r : ℕ) → goal.F-post g l.word o r → below (suc o) ≡ bit_or (below o) r)
    → l.marked ≡ below l.o)
