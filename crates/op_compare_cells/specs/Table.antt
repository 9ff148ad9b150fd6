-- Cells decoded once: five words a cell, the places of its operands and its truth word, and behind them all the number
-- of cells. Cited by whoever evaluates cells. Assumes nothing.
--   table_word, count_in          a word of the table, from the cells' words; how many cells it holds
--   cell_in, table_cells          the cells that a table holds
--   CellPlaces, EarlierPlaces   the places of a cell's operands are below a number; each cell reads earlier places
--                               alone
--   Tabled, CellTable           the first words of a table of legal cells; all of it
use Rattle.std.specs.Prelude.{ℕ, ◌+◌, ◌*◌, ◌%◌, ◌≤◌, ◌<◌, ◌≡◌, cond, List, length, get_or, eqb}
use Rattle.prelude.specs.Lists.{tab}
use Rattle.netlist.specs.Limits.{max_gates}
use Rattle.netlist.specs.StoredBlock.{operand_words, operand_of}
use Rattle.netlist.specs.Cells.{cell_size, Cell, cell_count, cells_in}
use Rattle.graph_gates.specs.Places.{first_gate, operand_at, place_of}

-- where the number of cells stands
abbrev pub count_at : ℕ
count_at = cell_size * max_gates

abbrev pub table_size : ℕ
table_size = count_at + 1

abbrev pub count_in : List ℕ → ℕ
count_in table = get_or table count_at 0

unfoldable pub table_word : ℕ → List ℕ → ℕ → ℕ
table_word n cells p = cond (eqb (p % cell_size) operand_words) (get_or cells p 0) (place_of (operand_of n (get_or cells p 0)))

unfoldable pub cell_in : List ℕ → ℕ → Cell
cell_in table j =
    record {
      operands = tab (λ i. operand_at (get_or table (cell_size * j + i) 0)) operand_words;
      truth = get_or table (cell_size * j + operand_words) 0;
    }

unfoldable pub table_cells : List ℕ → List Cell
table_cells table = tab (cell_in table) (count_in table)

pub record CellPlaces (most : ℕ) (table : List ℕ) (j : ℕ) : Type 0 where
  pub inside : (i : ℕ) → i < operand_words → get_or table (cell_size * j + i) 0 < most
  pub truth : get_or table (cell_size * j + operand_words) 0 < 65536

pub record EarlierPlaces (table : List ℕ) : Type 0 where
  pub few : count_in table ≤ max_gates
  pub cell : (j : ℕ) → j < count_in table → CellPlaces (first_gate + j) table j

-- the first p words of a table are made
pub record Tabled (n : ℕ) (cells : List ℕ) (p : ℕ) (table : List ℕ) : Type 0 where
  pub long : length table ≡ table_size
  pub word : (q : ℕ) → q < p → get_or table q 0 ≡ table_word n cells q

pub record CellTable (n : ℕ) (cells table : List ℕ) : Type 0 where
  pub count : count_in table ≡ cell_count cells
  pub holds : table_cells table ≡ cells_in n cells
  pub places : EarlierPlaces table
