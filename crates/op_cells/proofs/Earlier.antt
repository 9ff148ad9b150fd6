-- Operands that are there already: the rule on their words, and that a straight block's cells keep it.
--   earlier-rule, reads-rule     the rule on an operand's word and on a cell's
--   many-inputs, many-cells, cut_off, all-earlier   the tests of a run
--   straight-earlier             the gates of a straight block read only what is there
--   made-legal                   so a run takes its cells
-- Assumes nothing.
use mathlib.Core.Path.{◌≡◌, refl, sym, ap, ◌∙◌}
use mathlib.Core.Logic.{⊎_elim}
use mathlib.Core.Bool.{Bool, true, false, and-true}
use mathlib.Core.List.{List, map}
use Prim.Native.Nat.{ℕ, ◌+◌, ◌*◌, ◌%◌, ◌≤◌, ◌<◌}
use native.Mathlib.Omega.{arith}
use lib.ListN.{length, get_or, get_or-eq_default}
use lib.Dec.{ltb}
use borrow.Author.Tests.{le-leb, lt-leb, eq-eqb, ne_eqb}
use Rattle.prelude.specs.Lists.{all, joined, up_to}
use Rattle.prelude.proofs.Tests.{lt-or-le}
use Rattle.prelude.proofs.Lists.{all-joined}
use Rattle.prelude.proofs.Quantifiers.{all-at, all_from, all-tab-from, all-below, below_all, all-ext}
use Rattle.netlist.specs.Limits.{max_inputs, max_gates}
use Rattle.netlist.specs.Netlist.{Operand, input, gate, constant, Block, input_count, gate_count, gate_of}
use Rattle.netlist.specs.Groups.{gate_operand, read_by}
use Rattle.netlist.specs.Rendering.{is_straight}
use Rattle.netlist.specs.StoredBlock.{operand_words, operand_of, is_well_formed}
use Rattle.netlist.specs.Cells.{cell_size, cells_of, cell_count, cell_at, Cell, is_earlier, reads_earlier, are_legal_cells}
use Rattle.theory_encoding.specs.Rules.{operand_rule}
use Rattle.theory_encoding.proofs.ListFacts.{all-tab, all_map}
use Rattle.theory_encoding.proofs.WellFormed.{well_formed-parts}
use Rattle.words_block.proofs.StraightLaws.{lower, lower-operand}
use Rattle.op_cells.proofs.Made.{operand_for, cell_for, cell-made, length-cells_of, cells_of-count}

-- an operand that is there reads no gate but a lower one
earlier-lower : (j : ℕ) (o : Operand) → is_earlier j o ≡ all (lower j) (gate_operand o)
unfolding is_earlier lower gate_operand
earlier-lower j (input i) = refl
earlier-lower j (gate i) = sym (and-true (ltb i j))
earlier-lower j (constant c) = refl

pub earlier-rule : (n j w : ℕ) → is_earlier j (operand_of n w) ≡ operand_rule (n + j) w
earlier-rule n j w = earlier-lower j (operand_of n w) ∙ lower-operand n j w

-- the test of one operand word of cell j
unfoldable pub word_rule : ℕ → List ℕ → ℕ → ℕ → Bool
word_rule n ws j i = operand_rule (n + j) (get_or ws (cell_size * j + i) 0)

pub word-told : (n : ℕ) (ws : List ℕ) (j i : ℕ) {w : ℕ} {r : Bool} → w ≡ get_or ws (cell_size * j + i) 0
    → r ≡ operand_rule (n + j) w → r ≡ word_rule n ws j i
unfolding word_rule
word-told n ws j i e t = rw (← e) t

pub reads-rule : (n : ℕ) (ws : List ℕ) (j : ℕ) → reads_earlier n ws j ≡ all (word_rule n ws j) (up_to operand_words)
unfolding reads_earlier cell_at word_rule
reads-rule n ws j =
    let operand : ℕ → Operand = λ i. operand_of n (get_or ws (cell_size * j + i) 0) in
    all-tab (is_earlier j) operand operand_words
    ∙ all-ext (λ i. is_earlier j (operand i)) (word_rule n ws j) operand_words
    (λ i l. earlier-rule n j (get_or ws (cell_size * j + i) 0))

-- ---- the tests of a run, one by one

module _ (n : ℕ) (ws : List ℕ) where
  pub many-inputs : max_inputs < n → are_legal_cells n ws ≡ false
  unfolding are_legal_cells
  many-inputs h = rw (lt-leb n max_inputs h)

  module _ (few : n ≤ max_inputs) where
    pub many-cells : cell_size * max_gates < length ws → are_legal_cells n ws ≡ false
    unfolding are_legal_cells
    many-cells h = rw (le-leb n max_inputs few, lt-leb (length ws) (cell_size * max_gates) h)

    module _ (short : length ws ≤ cell_size * max_gates) where
      pub cut_off : (length ws % cell_size ≡ 0 → ⊥) → are_legal_cells n ws ≡ false
      unfolding are_legal_cells
      cut_off h =
          rw (le-leb n max_inputs few, le-leb (length ws) (cell_size * max_gates) short, ne_eqb (length ws % cell_size) 0 h)

      pub all-earlier : length ws % cell_size ≡ 0 → are_legal_cells n ws ≡ all (reads_earlier n ws) (up_to (cell_count ws))
      unfolding are_legal_cells
      all-earlier h =
          rw (le-leb n max_inputs few, le-leb (length ws) (cell_size * max_gates) short, eq-eqb (length ws % cell_size) 0 h)

-- ---- a straight block

module _ (b : Block) (straight : is_straight b ≡ true) where
  pub straight-earlier : (j : ℕ) → j < gate_count b → all (is_earlier j) (gate_of b j).operands ≡ true
  unfolding is_straight read_by lower
  straight-earlier j l =
      let os = (gate_of b j).operands in
      let reads : all (lower j) (joined (map gate_operand os)) ≡ true =
      all-below (λ j. all (lower j) (read_by b j)) (gate_count b) j straight l in
      let each : all (λ o. all (lower j) (gate_operand o)) os ≡ true =
      sym (all-joined (lower j) (map gate_operand os) ∙ all_map (all (lower j)) gate_operand os) ∙ reads in
      all_from (is_earlier j) os (constant false)
      (λ i k. earlier-lower j (get_or os i (constant false))
      ∙ all-at (λ o. all (lower j) (gate_operand o)) os i (constant false) each k)

  -- also where an operand is absent
  pub operand-earlier : (j i : ℕ) → j < gate_count b → is_earlier j (operand_for (gate_of b j) i) ≡ true
  unfolding is_earlier
  operand-earlier j i l =
      let g = gate_of b j in
      ⊎_elim (λ k. all-at (is_earlier j) g.operands i (constant false) (straight-earlier j l) k)
      (λ k. let none : operand_for g i ≡ constant false = get_or-eq_default g.operands (constant false)
      k in rw none)
      (lt-or-le i (length g.operands))

  module _ (h : is_well_formed b ≡ true) where
    made-earlier : (j : ℕ) → j < gate_count b → reads_earlier (input_count b) (cells_of b) j ≡ true
    unfolding reads_earlier cell_for
    made-earlier j l =
        ap (λ (c : Cell). all (is_earlier j) c.operands) (cell-made b h j l)
        ∙ all-tab-from (is_earlier j) (operand_for (gate_of b j)) operand_words (λ i k. operand-earlier j i l)

    -- a run takes the cells
    pub made-legal : are_legal_cells (input_count b) (cells_of b) ≡ true
    made-legal =
        let w = well_formed-parts b h in
        let long : length (cells_of b) ≡ cell_size * gate_count b = length-cells_of b in
        all-earlier (input_count b) (cells_of b) w.few_inputs (omega (arith, w.few_gates)) (omega arith)
        ∙ rw (cells_of-count b) (below_all (reads_earlier (input_count b) (cells_of b)) (gate_count b) made-earlier)
