-- From cells' words to their table. Cited by `table`.
--   LegalParts, legal-parts    what the test of legal cells says
--   operand-place              the place of a legal cell's operand is an earlier one
--   tabled-none, tabled-more, tabled-count   word after word, and the whole table
-- Assumes nothing.
use mathlib.Core.Path.{◌≡◌, refl, ◌∙◌}
use mathlib.Core.Logic.{⊎_elim}
use mathlib.Core.Bool.{true, ◌&&◌}
use mathlib.Core.List.{List}
use Prim.Native.Nat.{ℕ, ◌+◌, ◌*◌, ◌/◌, ◌%◌, ◌≤◌, ◌<◌}
use native.Mathlib.Omega.{arith}
use native.Mathlib.Nat.{not-suc-le-zero}
use borrow.Author.Tests.{leb-true, eqb-true, eq-eqb, ne_eqb}
use lib.Dec.{eqb, leb}
use lib.ListN.{length, get_or, set, length-set}
use lib.Seq.{get_or-set_same, get_or-set_other}
use Rattle.prelude.specs.Lists.{all, tab, up_to}
use Rattle.prelude.proofs.Tests.{and_left, and_right, lt-or-le, eq-or-ne}
use Rattle.prelude.proofs.Tab.{tab-ext}
use Rattle.prelude.proofs.Quantifiers.{all-below}
use Rattle.netlist.specs.Limits.{max_inputs, max_gates}
use Rattle.netlist.specs.Netlist.{Operand}
use Rattle.netlist.specs.StoredBlock.{operand_words, operand_of}
use Rattle.netlist.specs.Cells.{cell_size, cell_count, cell_at, cells_in, reads_earlier, are_legal_cells}
use Rattle.theory_encoding.proofs.Readers.{OperandWord, operand_rule-cases}
use Rattle.op_cells.proofs.Earlier.{word_rule, reads-rule}
use Rattle.graph_gates.specs.Places.{first_gate, operand_at, place_of}
use Rattle.graph_gates.proofs.Places.{place-input, place-zero, place-one, place-gate, operand_at-word}
use Rattle.op_compare_cells.specs.Table.{count_at, table_size, count_in, table_word, cell_in, table_cells, CellPlaces}
use Rattle.op_compare_cells.specs.Table.{Tabled, CellTable}

-- ---- legal cells

pub record LegalParts (n : ℕ) (cells : List ℕ) : Type 0 where
  pub few_inputs : n ≤ max_inputs
  pub short : length cells ≤ count_at
  pub whole : length cells % cell_size ≡ 0
  pub reads : (j : ℕ) → j < cell_count cells → reads_earlier n cells j ≡ true

pub legal-parts : (n : ℕ) (cells : List ℕ) → are_legal_cells n cells ≡ true → LegalParts n cells
unfolding are_legal_cells
legal-parts n cells h =
    let few = leb n max_inputs in
    let short = leb (length cells) (cell_size * max_gates) in
    let whole = eqb (length cells % cell_size) 0 in
    let reads = all (reads_earlier n cells) (up_to (cell_count cells)) in
    let front = and_left (few && short && whole) reads h in
    let first = and_left (few && short) whole front in
    record {
      few_inputs = leb-true n max_inputs (and_left few short first);
      short = leb-true (length cells) (cell_size * max_gates) (and_right few short first);
      whole = eqb-true (length cells % cell_size) 0 (and_right (few && short) whole front);
      reads = λ j l. all-below (reads_earlier n cells) (cell_count cells) j (and_right (few && short && whole) reads h) l;
    }

module _ {n : ℕ} {cells : List ℕ} (legal : LegalParts n cells) where
  -- the word of operand i of cell j
  operand-word : (j i : ℕ) → j < cell_count cells → i < operand_words
      → OperandWord (n + j) (get_or cells (cell_size * j + i) 0)
  unfolding word_rule
  operand-word j i l k =
      operand_rule-cases (n + j) _
      (all-below (word_rule n cells j) operand_words i (rw (reads-rule n cells j) at (legal.reads j l)) k)

  pub few-cells : cell_count cells ≤ max_gates
  unfolding cell_count
  few-cells = omega (arith, legal.short)

  word-place : (j w : ℕ) → j ≤ max_gates → OperandWord (n + j) w → place_of (operand_of n w) < first_gate + j
  word-place j w few h = ⊎_elim node (⊎_elim zero one) h
    where
      node : w < n + j → place_of (operand_of n w) < first_gate + j
      node l =
          ⊎_elim (λ i. rw (place-input n w i) (omega (arith, legal.few_inputs)))
          (λ i. rw (place-gate n w i (omega (arith, legal.few_inputs))) (omega arith))
          (lt-or-le w n)

      zero : w ≡ 65534 → place_of (operand_of n w) < first_gate + j
      zero e = rw (e, place-zero n legal.few_inputs) (omega arith)

      one : w ≡ 65535 → place_of (operand_of n w) < first_gate + j
      one e = rw (e, place-one n legal.few_inputs) (omega arith)

  word_small : (j w : ℕ) → j ≤ max_gates → OperandWord (n + j) w → w < 65536
  word_small j w few h = ⊎_elim (λ l. omega (arith, legal.few_inputs)) (⊎_elim (λ e. omega arith) (λ e. omega arith)) h

  pub operand-place : (j i : ℕ) → j < cell_count cells → i < operand_words
      → place_of (operand_of n (get_or cells (cell_size * j + i) 0)) < first_gate + j
  operand-place j i l k = word-place j _ (omega (arith, few-cells)) (operand-word j i l k)

  -- the same of word p of the cells
  pub place-small : (p : ℕ) → p < length cells → (p % cell_size ≡ operand_words → ⊥)
      → place_of (operand_of n (get_or cells p 0)) < 65536
  unfolding cell_count
  place-small p l other =
      let at : cell_size * (p / cell_size) + p % cell_size ≡ p = omega arith in
      let below : p / cell_size < length cells / cell_size = omega (arith, legal.whole) in
      let there : place_of (operand_of n
      (get_or cells (cell_size * (p / cell_size) + p % cell_size) 0)) < first_gate + p / cell_size =
      operand-place (p / cell_size) (p % cell_size) below (omega (arith, other)) in
      let less : place_of (operand_of n (get_or cells p 0)) < first_gate + p / cell_size = rw at at there in
      omega (arith, few-cells)

  -- ---- word after word

  pub tabled-none : {table : List ℕ} → length table ≡ table_size → Tabled n cells 0 table
  tabled-none e = record { long = e; word = λ q l. absurd (not-suc-le-zero l) }

  pub tabled-more : {table : List ℕ} {p r : ℕ} → Tabled n cells p table → p < length cells → r ≡ table_word n cells p
      → Tabled n cells (p + 1) (set table p r)
  tabled-more {table} {p} {r} t l e =
      record {
        long = length-set table p r ∙ t.long;
        word = λ q k.
            ⊎_elim
            (λ (same : q ≡ p). rw same (get_or-set_same table p r 0 (omega (arith, t.long, legal.short)) ∙ e))
            (λ other. get_or-set_other table p q r 0 other ∙ t.word q (omega (arith, other)))
            (eq-or-ne q p);
      }

  module _ {table : List ℕ} (t : Tabled n cells (length cells) table) where
    table-operand : (j i : ℕ) → j < cell_count cells → i < operand_words
        → get_or table (cell_size * j + i) 0 ≡ place_of (operand_of n (get_or cells (cell_size * j + i) 0))
    unfolding table_word cell_count
    table-operand j i l k =
        let r : (cell_size * j + i) % cell_size ≡ i = omega arith in
        t.word (cell_size * j + i) (omega arith)
        ∙ rw (ne_eqb ((cell_size * j + i) % cell_size) operand_words (λ e. omega arith))

    table-truth : (j : ℕ) → j < cell_count cells
        → get_or table (cell_size * j + operand_words) 0 ≡ get_or cells (cell_size * j + operand_words) 0
    unfolding table_word cell_count
    table-truth j l =
        t.word (cell_size * j + operand_words) (omega arith)
        ∙ rw (eq-eqb ((cell_size * j + operand_words) % cell_size) operand_words (omega arith))

    cell-is : (j : ℕ) → j < cell_count cells → cell_in table j ≡ cell_at n cells (cell_size * j)
    unfolding cell_in cell_at
    cell-is j l =
        let decoded : ℕ → Operand = λ i. operand_at (get_or table (cell_size * j + i) 0) in
        let stored : ℕ → Operand = λ i. operand_of n (get_or cells (cell_size * j + i) 0) in
        let operands : tab decoded operand_words ≡ tab stored operand_words =
        tab-ext decoded stored operand_words
        (λ i k. rw (table-operand j i l k)
        (operand_at-word n _ legal.few_inputs (word_small j _ (omega (arith, few-cells)) (operand-word j i l k)))) in
        rw (operands, table-truth j l) refl

    cell-places : (j : ℕ) → j < cell_count cells → get_or cells (cell_size * j + operand_words) 0 < 65536
        → CellPlaces (first_gate + j) table j
    cell-places j l small =
        record {
          inside = λ i k. rw (table-operand j i l k) (operand-place j i l k);
          truth = rw (table-truth j l) small;
        }

    -- the whole table, from the number of cells on; the cells' words are words
    table-made : count_in table ≡ cell_count cells → ((i : ℕ) → get_or cells i 0 < 65536) → CellTable n cells table
    unfolding table_cells cells_in
    table-made counted small =
        record {
          count = counted;
          holds = rw counted (tab-ext (cell_in table) (λ j. cell_at n cells (cell_size * j)) (cell_count cells) cell-is);
          places = record {
            few = rw counted few-cells;
            cell =
                λ j l. let below : j < cell_count cells =
                rw counted at l in cell-places j below (small (cell_size * j + operand_words));
          };
        }

  -- the number of cells is stored behind the words
  pub tabled-count : {table : List ℕ} {r : ℕ} → Tabled n cells (length cells) table → r ≡ cell_count cells
      → ((i : ℕ) → get_or cells i 0 < 65536)
      → CellTable n cells (set table count_at r)
  tabled-count {table} {r} t e small =
      let stored : get_or (set table count_at r) count_at 0 ≡ r =
      get_or-set_same table count_at r 0 (omega (arith, t.long)) in
      table-made
      (record {
        long = length-set table count_at r ∙ t.long;
        word = λ q l. get_or-set_other table count_at q r 0 (λ same. omega (arith, legal.short)) ∙ t.word q l;
      })
      (stored ∙ e) small
