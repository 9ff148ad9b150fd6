-- What comparing asks of a block, of cells and of the list. Cited by the contracts of this crate. Assumes nothing.
--   is_below        a word below a number
--   Comparable     what the tests passed say
--   SearchReady    the listed nodes have places, and each of a table's cells reads earlier places alone
use Rattle.std.specs.Prelude.{ℕ, ◌+◌, ◌<◌, ◌≡◌, Bool, true, false, List, length, get_or, ltb}
use Rattle.netlist.specs.StoredBlock.{is_malformed}
use Rattle.netlist.specs.Cells.{cell_count, are_legal_cells}
use Rattle.op_compare_cells.specs.Table.{count_in, EarlierPlaces}
use Rattle.op_compare_cells.specs.Words.{ListReady}

unfoldable pub is_below : ℕ → ℕ → Bool
is_below nodes w = ltb w nodes

pub record Comparable (ws cells shown : List ℕ) : Type 0 where
  pub whole : is_malformed ws ≡ false
  pub legal : are_legal_cells (get_or ws 0 0) cells ≡ true
  pub long : length shown ≡ get_or ws 2 0
  pub listed : (o : ℕ) → o < get_or ws 2 0 → get_or shown o 0 < get_or ws 0 0 + cell_count cells

pub record SearchReady (ws shown table : List ℕ) : Type 0 where
  pub list : ListReady ws shown
  pub places : EarlierPlaces table
  pub listed : (o : ℕ) → o < get_or ws 2 0 → get_or shown o 0 < get_or ws 0 0 + count_in table
