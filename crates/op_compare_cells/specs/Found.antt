-- What the search over all settings tells, whichever cells the table is of. Cited by the contracts of `settings`.
-- Assumes nothing.
--   Agreed      no setting below a number disagrees
--   Found       the answer
use Rattle.std.specs.Prelude.{◌≡◌, List, false, ℕ, ◌<◌, get_or}
use Rattle.netlist.specs.Answers.{Answer}
use Rattle.netlist.specs.StoredBlock.{decode}
use Rattle.netlist.specs.Answers.{answer_of}
use Rattle.netlist.specs.CompareCells.{cells_disagree, compare_block_cells}
use Rattle.op_compare_cells.specs.Table.{CellTable}

pub record Agreed (ws shown table : List ℕ) (base : ℕ) : Type 0 where
  pub none : (cells : List ℕ) → CellTable (get_or ws 0 0) cells table → (i : ℕ) → i < base
      → cells_disagree (decode ws) cells shown i ≡ false

pub record Found (ws shown table : List ℕ) (r : Answer) : Type 0 where
  pub told : (cells : List ℕ) → CellTable (get_or ws 0 0) cells table
      → r ≡ answer_of (compare_block_cells (decode ws) cells shown)
