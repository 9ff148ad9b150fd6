-- What making cells asks of a gate's words, and the words of one cell. Assumes nothing.
use Rattle.std.specs.Prelude.{◌≡◌, true, cond, ◌&&◌, List, ℕ, ◌+◌, ◌/◌, ◌%◌, get_or, set}
use Rattle.prelude.specs.Lists.{tab}
use Rattle.netlist.specs.Kinds.{is_kind, arity_fits}
use Rattle.netlist.specs.StoredBlock.{gate_at}
use Rattle.netlist.specs.Cells.{truth_word, cell_words}

-- a gate's first word holds a kind, and a count that the kind allows
pub record GateHead (head : ℕ) : Type 0 where
  pub kind : is_kind (head % 8) ≡ true
  pub count : arity_fits (head % 8) (head / 8) ≡ true

-- the truth word of each first word below 39, the last being that of `xnor` with four operands; 0 where no gate has it
unfoldable pub truth_entry : ℕ → ℕ
truth_entry head = cond (is_kind (head % 8) && arity_fits (head % 8) (head / 8)) (truth_word (head % 8) (head / 8)) 0

abbrev pub heads : ℕ
heads = 39

unfoldable pub truth_words : List ℕ
truth_words = tab truth_entry heads

-- word i of the cell of the gate whose words start at `at`
unfoldable pub cell_word_at : List ℕ → ℕ → ℕ → ℕ
cell_word_at ws at i = get_or (cell_words (get_or ws 0 0) (gate_at (get_or ws 0 0) ws at)) i 0

-- the words with that cell at the place `to`
unfoldable pub cell_put : List ℕ → ℕ → ℕ → List ℕ → List ℕ
cell_put ws at to cells =
    let word = cell_word_at ws at in
    set (set (set (set (set cells to (word 0)) (to + 1) (word 1)) (to + 2) (word 2)) (to + 3) (word 3)) (to + 4)
    (word 4)
