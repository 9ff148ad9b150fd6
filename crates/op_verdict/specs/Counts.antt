-- How many settings of a batch are settled. Cited by the contracts of `settings`. Assumes nothing.
use Rattle.std.specs.Prelude.{ℕ, ◌+◌, ◌%◌, ◌≤◌, ◌<◌, ◌≡◌, Bool, true, List, get_or}
use Rattle.prelude.specs.Lists.{count_below}
use Rattle.netlist.specs.Netlist.{Block}
use Rattle.netlist.specs.StoredBlock.{decode}
use Rattle.netlist.specs.Rounds.{is_counted, is_sound_at}
use Rattle.words_layout.specs.Bounds.{count_room}
use Rattle.lanes_dual_rail.specs.Batches.{lanes_of}
use Rattle.lanes_settings.specs.Lanes.{Judged}

-- no setting below `first` may come and is not settled, and where the batch at `base` is the one at `first`, the lanes
-- hold its settled values
pub record FirstReached (ws : List ℕ) (first base : ℕ) (w : List ℕ) : Type 0 where
  pub aligned : base % 64 ≡ 0
  pub near : base < count_room
  pub before : (i : ℕ) → i < first → is_sound_at (decode ws) i ≡ true
  pub held : base ≡ first → Judged ws (get_or ws 0 0) base w

-- of the batch at `base`: setting s of it may come and is settled
unfoldable pub counted_from : Block → ℕ → ℕ → Bool
counted_from b base s = is_counted b (base + s)

-- r settings of the batch at `base` may come and are settled; the lanes stay as they were below the batch at `first`
pub record BatchCounted (ws : List ℕ) (first base : ℕ) (w after : List ℕ) (r : ℕ) : Type 0 where
  pub count : r ≡ count_below (counted_from (decode ws) base) (lanes_of (get_or ws 0 0))
  pub kept : base + lanes_of (get_or ws 0 0) ≤ first → after ≡ w
