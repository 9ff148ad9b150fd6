-- What an answer of CompareCells (SPECIFICATION 7.19) says of a block's words, of cells, and of the list of the nodes
-- that show its outputs, as sentences over settings and outputs. proofs/ shows each of them of every list of words,
-- with no condition on who made the cells.
--   Fits              no condition of refusal holds
--   AnswersBy         accepted exactly where all outputs agree; another answer is the lowest disagreement, and exactly
--                     that
--   list_of            a rendering's own list: the nodes that its outputs show
--   MadeIsAccepted    what Cells makes of what Render makes is accepted, with that list
--   AgreeWith         two tables show the same under every setting that counts
use Rattle.std.specs.Prelude.{ℕ, ◌+◌, ◌<◌, ◌≡◌, true, false, List, [], map, length, get_or}
use Rattle.netlist.specs.Netlist.{input_count, output_count}
use Rattle.netlist.specs.StoredBlock.{node_word, decode, is_malformed}
use Rattle.netlist.specs.Rounds.{setting_count, is_counted}
use Rattle.netlist.specs.Answers.{done}
use Rattle.netlist.specs.Cells.{cell_count, are_legal_cells}
use Rattle.netlist.specs.CompareCells.{cell_shown, compare_cells, AcceptsCells, CellDisagreement}

-- the words are a block's, a run takes the cells for its inputs, and the list names an input or a cell for each output
pub record Fits (ws cells shown : List ℕ) : Type 0 where
  pub block : is_malformed ws ≡ false
  pub legal : are_legal_cells (input_count (decode ws)) cells ≡ true
  pub one_each : length shown ≡ output_count (decode ws)
  pub listed : (o : ℕ) → o < length shown → get_or shown o 0 < input_count (decode ws) + cell_count cells

pub record AnswersBy (ws cells shown : List ℕ) : Type 0 where
  -- accepted exactly where nothing is refused and under every setting that counts each listed node shows its output's
  -- value
  pub accepted : Fits ws cells shown → AcceptsCells (decode ws) cells shown → compare_cells ws cells shown ≡ done [] 0 0
  pub says : compare_cells ws cells shown ≡ done [] 0 0 → Fits ws cells shown × AcceptsCells (decode ws) cells shown
  -- any other count and detail are the lowest setting and there the lowest output, counted from 1, and these are always
  -- told
  pub lowest : (s o : ℕ) → compare_cells ws cells shown ≡ done [] (o + 1) s
      → Fits ws cells shown × CellDisagreement (decode ws) cells shown s o
  pub told : (s o : ℕ) → Fits ws cells shown → CellDisagreement (decode ws) cells shown s o
      → compare_cells ws cells shown ≡ done [] (o + 1) s

-- the words of the nodes that the outputs of the block of `out` show
unfoldable pub list_of : List ℕ → List ℕ
list_of out = map (λ o. node_word (input_count (decode out)) o.node) (decode out).outputs

-- `out` are the words that Render made of `ws`, and `cells` those that Cells made of `out`
abbrev pub MadeIsAccepted : List ℕ → List ℕ → List ℕ → Type 0
MadeIsAccepted ws out cells = compare_cells ws cells (list_of out) ≡ done [] 0 0

abbrev pub AgreeWith : List ℕ → List ℕ → List ℕ → List ℕ → List ℕ → Type 0
AgreeWith ws cells shown others shown_there =
    (s : ℕ) → s < setting_count (decode ws) → is_counted (decode ws) s ≡ true → (o : ℕ) → o < output_count (decode ws)
    → cell_shown (input_count (decode ws)) cells shown s o ≡ cell_shown (input_count (decode ws)) others shown_there s o
