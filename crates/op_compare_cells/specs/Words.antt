-- Where a block and the listed nodes show other values, as words with a bit at each lane of a batch. Cited by this
-- crate's contracts. Assumes nothing.
--   ListReady                        the listed nodes have places
--   shown_word                        the word of the node listed for an output
--   differing_in                      a pair's lanes at which it has not the value of a word's bit
--   differing_word, differing_words    at an output; at one of the first outputs
--   differs_at                        the output's bit of one lane
--   Listed, Marks                    cells that have the listed nodes; a word that marks the lanes at which they
--                                    disagree
use Rattle.std.specs.Prelude.{ℕ, zero, suc, ◌+◌, ◌^◌, ◌≤◌, ◌<◌, ◌≡◌, Bool, false, List, length, get_or}
use Rattle.std.specs.Int.Bits.{bit_or, bit_xor}
use Rattle.netlist.specs.Limits.{max_gates}
use Rattle.netlist.specs.StoredBlock.{operand_of, outputs_at, decode, is_malformed}
use Rattle.netlist.specs.Cells.{cell_count, cells_in}
use Rattle.netlist.specs.CompareCells.{cells_disagree}
use Rattle.graph_gates.specs.Places.{place_count, place_of}
use Rattle.lanes_dual_rail.specs.declared.Pair.{Pair}
use Rattle.lanes_dual_rail.specs.Pairs.{full}
use Rattle.lanes_dual_rail.specs.Batches.{lanes_of}
use Rattle.lanes_dual_rail.specs.Words.{has_lane, Tells}
use Rattle.lanes_settings.specs.Lanes.{output_pair}
use Rattle.op_compare_cells.specs.Choices.{choice_word}
use Rattle.op_compare_cells.specs.CellLanes.{Evaluated}

pub record ListReady (ws shown : List ℕ) : Type 0 where
  pub whole : is_malformed ws ≡ false
  pub long : length shown ≡ get_or ws 2 0
  pub inside : (o : ℕ) → o < get_or ws 2 0 → place_of (operand_of (get_or ws 0 0) (get_or shown o 0)) < place_count

unfoldable pub differing_in : ℕ → Pair → ℕ → ℕ
differing_in used p word = bit_xor used (choice_word p.zeros p.ones word)

unfoldable pub shown_word : List ℕ → List ℕ → List ℕ → ℕ → ℕ
shown_word ws shown nodes o = get_or nodes (place_of (operand_of (get_or ws 0 0) (get_or shown o 0))) 0

-- the words of the block, the list, and the words of the block's places and of the cells' in a batch
module _ (ws shown lanes nodes : List ℕ) where
  unfoldable pub differing_word : ℕ → ℕ
  differing_word o =
      let n = get_or ws 0 0 in
      differing_in (full (lanes_of n)) (output_pair ws (outputs_at n (get_or ws 3 0) (get_or ws 1 0)) n lanes o)
      (shown_word ws shown nodes o)

  unfoldable pub differing_words : ℕ → ℕ
  differing_words zero = 0
  differing_words (suc o) = bit_or (differing_words o) (differing_word o)

  unfoldable pub differs_at : ℕ → ℕ → Bool
  differs_at lane o = has_lane (differing_word o) lane

abbrev pub Listed : List ℕ → List ℕ → List ℕ → Type 0
Listed ws shown cells = (o : ℕ) → o < get_or ws 2 0 → get_or shown o 0 < get_or ws 0 0 + cell_count cells

-- a word that marks the lanes at which the block and the cells disagree, whichever cells `nodes` has the words of in
-- the batch at `base`
pub record Marks (ws shown : List ℕ) (base : ℕ) (nodes : List ℕ) (word : ℕ) : Type 0 where
  pub within : word < 2 ^ 64
  pub tells : (cells : List ℕ) → cell_count cells ≤ max_gates → Listed ws shown cells
      → Evaluated (get_or ws 0 0) base (cells_in (get_or ws 0 0) cells) (cell_count cells) nodes
      → Tells (lanes_of (get_or ws 0 0)) base (cells_disagree (decode ws) cells shown) word
