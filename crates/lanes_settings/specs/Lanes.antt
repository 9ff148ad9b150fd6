-- Words with a bit at each lane of a batch whose setting passes a test. Cited by this crate's contracts and by those
-- that walk over batches.
--   is_undefined_at, is_unsettled, is_unsound   the tests
--   undefined_word, unsettled_word    the lanes at which an output, or one of the first outputs, is undefined
--   OutputThere, OutputsThere       outputs that can be read
--   Judged                          a batch that was decided
-- Assumes nothing.
use Rattle.std.specs.Prelude.{◌≡◌, Bool, false, not, List, ℕ, zero, suc, ◌+◌, ◌*◌, ◌%◌, ◌≤◌, ◌<◌, get_or}
use Rattle.std.specs.Int.Bits.{bit_or, bit_xor}
use Rattle.netlist.specs.Values.{undefined, is_defined}
use Rattle.netlist.specs.Netlist.{Block}
use Rattle.netlist.specs.Limits.{max_inputs}
use Rattle.netlist.specs.StoredBlock.{name_size, output_size, operand_of, decode, is_malformed}
use Rattle.netlist.specs.Rounds.{outputs_under, is_settled, is_sound_at}
use Rattle.words_layout.specs.Bounds.{count_room}
use Rattle.lanes_dual_rail.specs.declared.Pair.{Pair}
use Rattle.graph_gates.specs.Places.{place_count, place_of}
use Rattle.lanes_dual_rail.specs.Pairs.{full}
use Rattle.lanes_dual_rail.specs.Batches.{lanes_of}
use Rattle.lanes_dual_rail.specs.LaneWords.{pair_at}
use Rattle.lanes_batch.specs.Layered.{LanesSettled}

-- ---- tests of setting number s

unfoldable pub is_undefined_at : Block → ℕ → ℕ → Bool
is_undefined_at b o s = not (is_defined (get_or (outputs_under b s) o undefined))

unfoldable pub is_unsettled : Block → ℕ → Bool
is_unsettled b s = not (is_settled b s)

-- the setting may come, and is not settled
unfoldable pub is_unsound : Block → ℕ → Bool
is_unsound b s = not (is_sound_at b s)

-- ---- words of lanes, from the pairs of the inputs and gates of a block of n inputs, whose outputs' words start at
-- `at`

-- the pair of output o
unfoldable pub output_pair : List ℕ → ℕ → ℕ → List ℕ → ℕ → Pair
output_pair ws at n w o = pair_at w (place_of (operand_of n (get_or ws (at + output_size * o + name_size) 0)))

-- the lanes at which output o is neither 0 nor 1, where `used` has a bit at each lane in use
unfoldable pub undefined_in : ℕ → Pair → ℕ
undefined_in used p = bit_xor used (bit_or p.zeros p.ones)

unfoldable pub undefined_word : List ℕ → ℕ → ℕ → List ℕ → ℕ → ℕ
undefined_word ws at n w o = undefined_in (full (lanes_of n)) (output_pair ws at n w o)

-- the lanes at which one of the first outputs is undefined
unfoldable pub unsettled_word : List ℕ → ℕ → ℕ → List ℕ → ℕ → ℕ
unsettled_word ws at n w zero = 0
unsettled_word ws at n w (suc o) = bit_or (unsettled_word ws at n w o) (undefined_word ws at n w o)

-- what reading output o asks
pub record OutputThere (ws : List ℕ) (at n o : ℕ) : Type 0 where
  pub near : at < count_room
  pub few : o < count_room
  pub few_inputs : n ≤ max_inputs
  pub inside : place_of (operand_of n (get_or ws (at + output_size * o + name_size) 0)) < place_count

-- what reading the first outputs asks
pub record OutputsThere (ws : List ℕ) (at n count : ℕ) : Type 0 where
  pub many : count < count_room
  pub each : (o : ℕ) → o < count → OutputThere ws at n o

-- the lanes hold the settled values of the batch at `base`, of a block of n inputs
pub record Judged (ws : List ℕ) (n base : ℕ) (w : List ℕ) : Type 0 where
  pub whole : is_malformed ws ≡ false
  pub settled : LanesSettled (decode ws) n base w
  pub inputs : n ≡ get_or ws 0 0
  pub few_inputs : n ≤ max_inputs
  pub aligned : base % 64 ≡ 0
