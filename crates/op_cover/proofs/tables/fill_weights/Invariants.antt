-- `tables::fill_weights` meets its contract: the weights of the masks passed are right, and a mask's half is one of
-- them.
use Prim.Native.Nat.{ℕ, ◌^◌, ◌≤◌, ◌<◌}
use mathlib.Core.Path.{◌≡◌}
use lib.ListN.{length, get_or}
use Rattle.theory_cover.specs.Tables.{weight_of}
use Rattle.op_cover.proofs.tables.fill_weights.Given as goal

abbrev pub invariant-loop-mask : goal.invariant-loop-mask
invariant-loop-mask l =
    record {
      some : 1 ≤ l.mask;
      within : l.mask ≤ 2 ^ l.n;
      counts : l.count ≡ 2 ^ l.n;
      same_length : length l.weights ≡ length l.initial.weights;
      right : (m : ℕ) → m < l.mask → get_or l.weights m 0 ≡ weight_of l.n m;
    }
