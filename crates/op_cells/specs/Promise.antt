-- The promise of making cells (SPECIFICATION 7.15): its own outcome, and whenever it answers 0, a run of the cells
-- gives Pass's values and Settle's. `cells-pass` in proofs/Agree.antt and `make-promise` in proofs/Outcomes.antt show
-- that the definitions meet it.
use Rattle.std.specs.Prelude.{◌≡◌, Bool, true, List, map, ℕ, length, take, leb}
use Rattle.prelude.specs.Lists.{all}
use Rattle.netlist.specs.Answers.{Answer}
use Rattle.netlist.specs.Values.{code, value_of}
use Rattle.netlist.specs.Netlist.{Block, input_count, gate_count}
use Rattle.netlist.specs.StoredBlock.{decode}
use Rattle.netlist.specs.Rounds.{settled}
use Rattle.netlist.specs.Rendering.{sweep}
use Rattle.netlist.specs.Answers.{number_of, count_of, Promise}
use Rattle.netlist.specs.Operations.{pass}
use Rattle.netlist.specs.Cells.{cell_count, cells_of, make_cells, are_legal_cells, cell_values, run_cells}

-- no byte is above 1
unfoldable pub is_two_valued : List ℕ → Bool
is_two_valued setting = all (λ v. leb v 1) setting

-- The words `cells` are those of block b, word for word; a run takes them; and under every setting of 0s and 1s for its
-- inputs it gives each gate the value of one sweep, which is the settled value.
pub record AgreesWith (b : Block) (cells : List ℕ) : Type 0 where
  pub word_for_word : cells ≡ cells_of b
  pub legal : are_legal_cells (input_count b) cells ≡ true
  pub one_each : cell_count cells ≡ gate_count b
  pub swept : (setting : List ℕ) → length setting ≡ input_count b → is_two_valued setting ≡ true
      → cell_values (input_count b) cells setting ≡ map code (sweep b (map value_of setting))
  pub settles : (setting : List ℕ) → length setting ≡ input_count b → is_two_valued setting ≡ true
      → cell_values (input_count b) cells setting ≡ map code (settled b (map value_of setting))

-- RunsAs, of words and any slice: on every setting without a byte above 1, of any length, Run of the cells answers what
-- Pass answers.
pub record RunsAs (ws cells : List ℕ) : Type 0 where
  pub agrees : AgreesWith (decode ws) cells
  pub runs : (setting : List ℕ) (room : ℕ) → is_two_valued setting ≡ true
      → run_cells (input_count (decode ws)) cells setting room ≡ pass ws setting room

-- What making cells promises: the answer r and what the slice holds at exit, from the words and the slice at entry.
pub record CellsPromise (ws entry : List ℕ) (r : Answer) (exit : List ℕ) : Type 0 where
  pub promise : Promise (make_cells ws (length entry)) entry r exit
  pub runs : number_of r ≡ 0 → RunsAs ws (take (count_of r) exit)
