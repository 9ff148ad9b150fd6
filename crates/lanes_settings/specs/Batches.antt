-- The search over batches of settings. Cited by the contracts of this crate and of `op_verdict`. Assumes nothing.
use Rattle.std.specs.Prelude.{ℕ, ◌+◌, ◌^◌, ◌≤◌, ◌<◌, ◌≡◌, true, false, List, length, get_or}
use Rattle.netlist.specs.StoredBlock.{decode}
use Rattle.netlist.specs.Rounds.{is_sound_at}
use Rattle.lanes_dual_rail.specs.Batches.{lanes_of}
use Rattle.lanes_dual_rail.specs.LaneWords.{lane_size}
use Rattle.lanes_settings.specs.Lanes.{Judged}

-- r is the first setting of the first batch that has one which may come and is not settled, and the lanes hold that
-- batch's settled values; or it is 2^n, where there is none
pub record FirstBatch (ws : List ℕ) (r : ℕ) (w : List ℕ) : Type 0 where
  pub within : r ≤ 2 ^ get_or ws 0 0
  pub before : (i : ℕ) → i < r → is_sound_at (decode ws) i ≡ true
  pub whole : r < 2 ^ get_or ws 0 0 → r + lanes_of (get_or ws 0 0) ≤ 2 ^ get_or ws 0 0
  pub judged : r < 2 ^ get_or ws 0 0 → Judged ws (get_or ws 0 0) r w
  pub some : r < 2 ^ get_or ws 0 0 → (s : ℕ) × (s < lanes_of (get_or ws 0 0)) × (is_sound_at (decode ws) (r + s) ≡ false)
  pub long : length w ≡ lane_size
