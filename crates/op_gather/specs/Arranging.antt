-- A block written with its gates permuted: the words of each part, and what writing asks of its slices.
-- Assumes nothing.
use Rattle.std.specs.Prelude.{ℕ, ◌+◌, ◌≤◌, ◌≡◌, false, List, length, get_or, take}
use Rattle.words_layout.specs.declared.nodes.Nodes.{Nodes}
use Rattle.netlist.specs.Netlist.{Block}
use Rattle.netlist.specs.StoredBlock.{decode, is_malformed}
use Rattle.netlist.specs.Gather.{arranged, number_at}
use Rattle.unroll_emission.specs.Words.{copy_words, Order}

-- the word of gate j under its new number
unfoldable pub new_word : ℕ → List ℕ → ℕ → ℕ
new_word n numbers j = n + get_or numbers j 0

-- the words of the gate at place t
unfoldable pub moved_at : List ℕ → Nodes → List ℕ → List ℕ → ℕ → List ℕ
moved_at ws nodes order table t = copy_words ws nodes (get_or order t 0) table

-- the block of the words with its gates in the order of the first numbers of `order`, and numbered by `numbers`
unfoldable pub arrangement : List ℕ → List ℕ → List ℕ → Block
arrangement ws order numbers = arranged (take (get_or ws 1 0) order) (number_at numbers) (decode ws)

pub record ArrangeReady (ws order numbers table out : List ℕ) : Type 0 where
  pub whole : is_malformed ws ≡ false
  pub gates : Order (get_or ws 1 0) (get_or ws 1 0) order
  pub numbered : Order (get_or ws 1 0) (get_or ws 1 0) numbers
  pub table_room : get_or ws 1 0 ≤ length table
  pub room : length ws ≤ length out
