-- Up to 64 records side by side, a lane to a record: lane s has the setting of the masks at place s of `fixed` and
-- `ones`.
--   is_zero, lane_value, values_pair, record_pair   the pair of an input
--   RecordsStarted        the lanes before they are settled
--   OutputsPut, shown_at   what the outputs show at a lane
--   ShownFor, SettledLanes   that it is what they show under the settled values of a setting
-- Assumes nothing.
use Rattle.std.specs.Prelude.{◌≡◌, Bool, false, not, List, map, ℕ, ◌<◌, length, get_or}
use Rattle.prelude.specs.Lists.{tab}
use Rattle.netlist.specs.Values.{Value, undefined, val, value_of}
use Rattle.netlist.specs.Assignments.{mask_of, is_one}
use Rattle.netlist.specs.StoredBlock.{outputs_at, decode}
use Rattle.netlist.specs.Sheet.{input_byte, setting_bytes, settled_outputs}
use Rattle.lanes_dual_rail.specs.declared.Pair.{Pair}
use Rattle.lanes_dual_rail.specs.Pairs.{lane}
use Rattle.lanes_dual_rail.specs.LaneWords.{pair_at, inputs_in}
use Rattle.lanes_batch.specs.Layered.{LanesFresh, padded}
use Rattle.lanes_settings.specs.Lanes.{output_pair}

unfoldable pub is_zero : Value → Bool
is_zero undefined = false
is_zero (val b) = not b

-- the value of input i in the setting of record s
unfoldable pub lane_value : List ℕ → List ℕ → ℕ → ℕ → Value
lane_value fixed ones i s = value_of (input_byte (get_or fixed s 0) (get_or ones s 0) i)

-- the pair that has these values at its lanes
unfoldable pub values_pair : List Value → Pair
values_pair vs = record { zeros = mask_of is_zero vs; ones = mask_of is_one vs }

-- the pair of input i of so many records
unfoldable pub record_pair : ℕ → List ℕ → List ℕ → ℕ → Pair
record_pair count fixed ones i = values_pair (tab (lane_value fixed ones i) count)

-- the lanes of so many records, with m gates and n inputs
pub record RecordsStarted (m n count : ℕ) (fixed ones w : List ℕ) : Type 0 where
  pub fresh : LanesFresh m 6 w
  pub inputs : inputs_in w ≡ padded n (record_pair count fixed ones)

-- the pairs of the first k outputs are put
pub record OutputsPut (ws w : List ℕ) (k : ℕ) (shown : List ℕ) : Type 0 where
  pub long : length shown ≡ 32
  pub put : (o : ℕ) → o < k
      → pair_at shown o ≡ output_pair ws (outputs_at (get_or ws 0 0) (get_or ws 3 0) (get_or ws 1 0)) (get_or ws 0 0) w o

-- what so many outputs show at lane s
unfoldable pub shown_at : ℕ → List ℕ → ℕ → List Value
shown_at count shown s = tab (λ o. lane s (pair_at shown o)) count

-- lane s shows the outputs under the settled values of the setting of two masks
pub record ShownFor (ws : List ℕ) (fixed ones s : ℕ) (shown : List ℕ) : Type 0 where
  pub is : shown_at (get_or ws 2 0) shown s
      ≡ settled_outputs (decode ws) (map value_of (setting_bytes (get_or ws 0 0) fixed ones))

-- each of so many lanes shows what its record asks
pub record SettledLanes (ws : List ℕ) (count : ℕ) (fixed ones shown : List ℕ) : Type 0 where
  pub long : length shown ≡ 32
  pub each : (s : ℕ) → s < count → ShownFor ws (get_or fixed s 0) (get_or ones s 0) s shown
