-- Where two blocks show other values, as words with a bit at each lane of a batch. Cited by the contracts of `outputs`.
-- Assumes nothing.
--   differing_word, differing_words     at an output; at one of the first outputs
--   differs_at                         the output's bit of one lane
use Rattle.std.specs.Prelude.{ℕ, zero, suc, Bool, List, get_or}
use Rattle.std.specs.Int.Bits.{bit_or}
use Rattle.netlist.specs.StoredBlock.{outputs_at}
use Rattle.lanes_dual_rail.specs.declared.Pair.{Pair}
use Rattle.lanes_dual_rail.specs.Pairs.{difference_of}
use Rattle.lanes_dual_rail.specs.Words.{has_lane}
use Rattle.lanes_settings.specs.Lanes.{output_pair}

-- the words of ours and of theirs, both of n inputs, and the pairs of both blocks' inputs and gates
module _ (ours theirs : List ℕ) (n : ℕ) (w others : List ℕ) where
  -- the pair of words, a bit at 0 and a bit at 1, of what output o shows
  unfoldable pub port_pair : List ℕ → List ℕ → ℕ → Pair
  port_pair ws v o = output_pair ws (outputs_at (get_or ws 0 0) (get_or ws 3 0) (get_or ws 1 0)) n v o

  unfoldable pub differing_word : ℕ → ℕ
  differing_word o = difference_of (port_pair ours w o) (port_pair theirs others o)

  unfoldable pub differing_words : ℕ → ℕ
  differing_words zero = 0
  differing_words (suc o) = bit_or (differing_words o) (differing_word o)

  unfoldable pub differs_at : ℕ → ℕ → Bool
  differs_at lane o = has_lane (differing_word o) lane
