-- `lanes_settings::lowest::unsettled_batch` meets its contract: every batch passed is settled where it may come, and
-- the one at which the loops are left is not.
use mathlib.Core.Path.{◌≡◌}
use mathlib.Core.Bool.{true}
use mathlib.Core.List.{List}
use Prim.Native.Nat.{ℕ, ◌-◌, ◌<◌}
use lib.Bits.{bit_and}
use lib.ListN.{get_or}
use Rattle.netlist.specs.StoredBlock.{decode}
use Rattle.netlist.specs.Rounds.{is_sound_at}
use Rattle.lanes_settings.specs.Lanes.{undefined_word}
use Rattle.lanes_settings.proofs.Batching.{Place}
use Rattle.lanes_settings.proofs.lowest.unsettled_batch.Given as goal

-- no setting before `base` may come and is not settled
pub record Passed (words : List ℕ) (base : ℕ) : Type 0 where
  pub place : Place (get_or words 0 0) base
  pub sound : (i : ℕ) → i < base → is_sound_at (decode words) i ≡ true

abbrev pub invariant-loop-o : goal.invariant-loop-o
invariant-loop-o l =
    (k : ℕ) → k < l.o → bit_and l.coming (undefined_word l.words l.at l.n l.lanes k) ≡ 0

abbrev pub invariant-batches : goal.invariant-batches
invariant-batches l = Passed l.words l.base

abbrev pub decreases-batches : goal.decreases-batches
decreases-batches l = l.count - l.base
