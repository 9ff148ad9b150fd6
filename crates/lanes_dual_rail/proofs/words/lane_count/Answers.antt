-- `lanes_dual_rail::words::lane_count` meets its contract.
use Rattle.std.proofs.Common.{◌≡◌, ℕ, ◌*◌, ◌^◌, ◌≤◌, ◌∙◌, arith, ap, lit<}
use native.Mathlib.Nat.{min-le_right}
use lib.Pow.{shl_exact}
use Rattle.lanes_dual_rail.specs.Batches.{lanes_of}
use Rattle.lanes_dual_rail.proofs.words.lane_count.Goals as goal

pub returns : goal.returns
unfolding lanes_of
returns c =
    let few : c.min.result ≤ 6 = rw c.min.ensures (min-le_right c.args.n 6) in
    shl_exact 1 c.min.result 64 (lit< tt) (omega arith) ∙ rw c.min.ensures (omega arith)
