-- The words of all places in a batch of settings: bit-parallel simulation of lookup tables. Cited by whoever evaluates
-- cells. Assumes nothing.
--   Carries        a word with the bits of a value under each setting
--   place_bit       the bit of what stands at a place, in a run of the cells
--   input_word, cell_word_at   the word of an input, and of a cell from those of its operands
--   Filled, InputsIn, Evaluated   the constants and the first inputs are there; all of them; and the first cells
use Rattle.std.specs.Prelude.{ℕ, ◌+◌, ◌*◌, ◌^◌, ◌<◌, ◌≡◌, cond, List, [], length, get_or, ltb}
use Rattle.std.specs.Int.Bits.{bit_and}
use Rattle.netlist.specs.Assignments.{bit}
use Rattle.netlist.specs.StoredBlock.{operand_words}
use Rattle.netlist.specs.Cells.{cell_size, Cell, operand_bit, run_from}
use Rattle.netlist.specs.CompareCells.{setting_bits}
use Rattle.lanes_dual_rail.specs.Pairs.{full}
use Rattle.lanes_dual_rail.specs.Batches.{lanes_of, pattern}
use Rattle.graph_gates.specs.Places.{first_input, first_gate, place_count, operand_at}
use Rattle.op_compare_cells.specs.Choices.{cell_word}

-- bit s of the word is the value under setting base + s, for a batch of so many settings from number `base` on, and no
-- bit stands past the last lane
pub record Carries (lanes base : ℕ) (value : ℕ → ℕ) (word : ℕ) : Type 0 where
  pub within : word < 2 ^ lanes
  pub each : (s : ℕ) → s < lanes → bit word s ≡ value (base + s)

-- the bit of what stands at a place under setting number t of n inputs, in a run of the cells
unfoldable pub place_bit : ℕ → List Cell → ℕ → ℕ → ℕ
place_bit n cs p t = operand_bit (setting_bits n t) (run_from (setting_bits n t) [] cs) (operand_at p)

unfoldable pub input_word : ℕ → ℕ → ℕ → ℕ
input_word n base i = cond (ltb i n) (bit_and (pattern base i) (full (lanes_of n))) 0

-- the word at the place of operand i of cell j
unfoldable pub operand_word : List ℕ → ℕ → List ℕ → ℕ → ℕ
operand_word table j nodes i = get_or nodes (get_or table (cell_size * j + i) 0) 0

unfoldable pub cell_word_at : ℕ → List ℕ → ℕ → List ℕ → ℕ
cell_word_at used table j nodes =
    cell_word used (get_or table (cell_size * j + operand_words) 0) (operand_word table j nodes 0)
    (operand_word table j nodes 1) (operand_word table j nodes 2)
    (operand_word table j nodes 3)

-- every place before the first cells' has its word, whatever the cells; and so have the first j cells
pub record Evaluated (n base : ℕ) (cs : List Cell) (j : ℕ) (nodes : List ℕ) : Type 0 where
  pub long : length nodes ≡ place_count
  pub each : (p : ℕ) → p < first_gate + j → Carries (lanes_of n) base (place_bit n cs p) (get_or nodes p 0)

-- the constants and the first inputs are stored
pub record Filled (n base i : ℕ) (nodes : List ℕ) : Type 0 where
  pub long : length nodes ≡ place_count
  pub zero : get_or nodes 0 0 ≡ 0
  pub one : get_or nodes 1 0 ≡ full (lanes_of n)
  pub inputs : (k : ℕ) → k < i → get_or nodes (first_input + k) 0 ≡ input_word n base k

pub record InputsIn (n base : ℕ) (nodes : List ℕ) : Type 0 where
  pub ready : (cs : List Cell) → Evaluated n base cs 0 nodes
