-- SPECIFICATION 7.19: CompareCells. Are lookup cells that were made elsewhere as good as the original block? A list
-- says for each output which node shows it: an input, or a cell. Nothing is assumed of who made the cells; settings of
-- the block that are not settled, or never come, do not count.
use Rattle.std.specs.Prelude.{ℕ, ◌+◌, ◌<◌, ◌≡◌, Bool, true, cond, not, ◌&&◌, List, [], length, get_or, eqb, ltb}
use Rattle.prelude.specs.Lists.{all, any, tab, up_to, least}
use Rattle.netlist.specs.declared.Refusal.TheVariants.{MalformedBlock, InterfaceMismatch}
use Rattle.netlist.specs.Values.{undefined, code}
use Rattle.netlist.specs.Assignments.{bit}
use Rattle.netlist.specs.Netlist.{Block, input_count, output_count}
use Rattle.netlist.specs.StoredBlock.{operand_of, decode, is_malformed}
use Rattle.netlist.specs.Rounds.{setting_count, outputs_under, is_counted}
use Rattle.netlist.specs.Answers.{Outcome, done, refuse_if}
use Rattle.netlist.specs.Cells.{cell_count, are_legal_cells, operand_bit, cell_values}

-- 6: a word of the list is an input or a cell, numbered as operands are
unfoldable pub is_listed : ℕ → List ℕ → ℕ → Bool
is_listed n cells w = ltb w (n + cell_count cells)

-- the bits of n inputs in setting number s
unfoldable pub setting_bits : ℕ → ℕ → List ℕ
setting_bits n s = tab (bit s) n

-- what the node listed for output o shows in a run of the cells under setting number s
unfoldable pub cell_shown : ℕ → List ℕ → List ℕ → ℕ → ℕ → ℕ
cell_shown n cells shown s o =
    operand_bit (setting_bits n s) (cell_values n cells (setting_bits n s)) (operand_of n (get_or shown o 0))

-- output o of the block shows another value than the node listed for it
unfoldable pub cell_differs : Block → List ℕ → List ℕ → ℕ → ℕ → Bool
cell_differs b cells shown s o =
    not (eqb (code (get_or (outputs_under b s) o undefined)) (cell_shown (input_count b) cells shown s o))

-- setting number s counts, and some output shows another value than the node listed for it
unfoldable pub cells_disagree : Block → List ℕ → List ℕ → ℕ → Bool
cells_disagree b cells shown s = is_counted b s && any (cell_differs b cells shown s) (up_to (output_count b))

-- the lowest setting under which block and cells disagree, or the number of settings where there is none; and the
-- lowest output that differs under a setting
unfoldable pub lowest_cell_disagreement : Block → List ℕ → List ℕ → ℕ
lowest_cell_disagreement b cells shown = least (cells_disagree b cells shown) (setting_count b)

unfoldable pub lowest_cell_differing : Block → List ℕ → List ℕ → ℕ → ℕ
lowest_cell_differing b cells shown s = least (cell_differs b cells shown s) (output_count b)

-- ---- CompareCells (6, 6, 12, 6): nothing is written; count and detail are 0 where the cells are accepted, else the
-- lowest output, counted from 1, and the setting

unfoldable pub cells_judged_at : Block → List ℕ → List ℕ → ℕ → Outcome
cells_judged_at b cells shown s =
    cond (ltb s (setting_count b)) (done [] (lowest_cell_differing b cells shown s + 1) s) (done [] 0 0)

unfoldable pub compare_block_cells : Block → List ℕ → List ℕ → Outcome
compare_block_cells b cells shown = cells_judged_at b cells shown (lowest_cell_disagreement b cells shown)

-- CompareCells: 6 is of the block, then of the cells (Run's rule), then of a word of the list; 12 between them is of
-- the list's length
unfoldable pub compare_cells : List ℕ → List ℕ → List ℕ → Outcome
compare_cells ws cells shown =
    refuse_if (is_malformed ws) MalformedBlock
    (refuse_if (not (are_legal_cells (input_count (decode ws)) cells)) MalformedBlock
    (refuse_if (not (eqb (length shown) (output_count (decode ws)))) InterfaceMismatch
    (refuse_if (not (all (is_listed (input_count (decode ws)) cells) shown)) MalformedBlock
    (compare_block_cells (decode ws) cells shown))))

-- ---- What CompareCells answers as sentences over settings and outputs

-- the node listed for output o shows the output's value under setting number s
abbrev pub CellAgrees : Block → List ℕ → List ℕ → ℕ → ℕ → Type 0
CellAgrees b cells shown s o = code (get_or (outputs_under b s) o undefined) ≡ cell_shown (input_count b) cells shown s o

-- the cells are accepted: under every settled setting of the block that may come each listed node shows its output's
-- value
abbrev pub AcceptsCells : Block → List ℕ → List ℕ → Type 0
AcceptsCells b cells shown =
    (s : ℕ) → s < setting_count b → is_counted b s ≡ true → (o : ℕ) → o < output_count b → CellAgrees b cells shown s o

-- the cells are not accepted, and s is the lowest setting, and there o the lowest output, at which they disagree
pub record CellDisagreement (b : Block) (cells shown : List ℕ) (s o : ℕ) : Type 0 where
  pub setting : s < setting_count b
  pub counts : is_counted b s ≡ true
  pub output : o < output_count b
  pub other : CellAgrees b cells shown s o → ⊥
  pub lower_outputs : (p : ℕ) → p < o → CellAgrees b cells shown s p
  pub lower_settings : (t : ℕ) → t < s → is_counted b t ≡ true → (p : ℕ) → p < output_count b
      → CellAgrees b cells shown t p
