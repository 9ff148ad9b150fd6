-- The words of all places, place after place. Cited by `evaluate`.
--   filled-first, filled_more, inputs_in    the constants and the inputs
--   cell-carried, evaluated-more            a cell from its operands' words; one cell more
-- Assumes nothing.
use mathlib.Core.Path.{◌≡◌, refl, sym, ◌∙◌}
use mathlib.Core.Logic.{⊎_elim}
use mathlib.Core.Bool.{true}
use mathlib.Core.List.{List, [], ◌∷◌}
use Prim.Native.Nat.{ℕ, zero, suc, ◌+◌, ◌-◌, ◌*◌, ◌%◌, ◌^◌, ◌≤◌, ◌<◌, min}
use native.Mathlib.Omega.{arith}
use native.Mathlib.Nat.{not-suc-le-zero}
use borrow.Author.Tests.{lt-ltb, le-ltb}
use lib.Pow.{pow_pos, ones_lt}
use lib.Bits.{bit_and, and_le_r}
use lib.ListN.{length, get_or, set, length-set, get_or-eq_default}
use lib.Seq.{get_or-set_same, get_or-set_other}
use Rattle.prelude.specs.Lists.{tab}
use Rattle.prelude.proofs.Tests.{lt-or-le, eq-or-ne}
use Rattle.prelude.proofs.Tab.{length-tab, get_d-tab}
use Rattle.netlist.specs.Limits.{max_inputs}
use Rattle.netlist.specs.Assignments.{bit}
use Rattle.netlist.specs.StoredBlock.{operand_words}
use Rattle.netlist.specs.Cells.{cell_size, Cell, is_earlier, operand_bit, number_of_bits, cell_value}
use Rattle.netlist.specs.CompareCells.{setting_bits}
use Rattle.lanes_dual_rail.specs.Pairs.{full}
use Rattle.lanes_dual_rail.specs.Batches.{lanes_of, pattern}
use Rattle.lanes_dual_rail.proofs.BitLaws.{bit-low, bit-zero, bit-and, bit-full}
use Rattle.lanes_dual_rail.proofs.InputLaws.{lanes_of-most, pattern-bit}
use Rattle.graph_gates.specs.Places.{first_input, first_gate, place_count, operand_at}
use Rattle.graph_gates.proofs.Places.{operand_at-zero, operand_at-one, operand_at-input, operand_at-gate}
use Rattle.op_compare_cells.specs.Table.{count_in, cell_in, table_cells, CellPlaces, EarlierPlaces}
use Rattle.op_compare_cells.specs.CellLanes.{Carries, place_bit, input_word, operand_word, cell_word_at, Filled}
use Rattle.op_compare_cells.specs.CellLanes.{InputsIn}
use Rattle.op_compare_cells.specs.CellLanes.{Evaluated}
use Rattle.op_compare_cells.proofs.Choosing.{cell-within, cell_at}
use Rattle.op_compare_cells.proofs.Running.{ran, cell-run}

-- ---- the constants and the inputs

pub filled-first : (n base : ℕ) (nodes : List ℕ) {one : ℕ} → length nodes ≡ place_count → one ≡ full (lanes_of n)
    → Filled n base 0 (set (set nodes 0 0) 1 one)
filled-first n base nodes {one} e is =
    let first : length (set nodes 0 0) ≡ place_count = length-set nodes 0 0 ∙ e in
    record {
      long = length-set (set nodes 0 0) 1 one ∙ first;
      zero = get_or-set_other (set nodes 0 0) 1 0 one 0 (λ f. omega arith) ∙ get_or-set_same nodes 0 0 0 (omega arith);
      one = get_or-set_same (set nodes 0 0) 1 one 0 (omega arith) ∙ is;
      inputs = λ k l. absurd (not-suc-le-zero l);
    }

pub filled_more : {n base i r : ℕ} {nodes : List ℕ} → Filled n base i nodes → i < max_inputs → r ≡ input_word n base i
    → Filled n base (i + 1) (set nodes (first_input + i) r)
filled_more {n} {base} {i} {r} {nodes} f l e =
    record {
      long = length-set nodes (first_input + i) r ∙ f.long;
      zero = get_or-set_other nodes (first_input + i) 0 r 0 (λ g. omega arith) ∙ f.zero;
      one = get_or-set_other nodes (first_input + i) 1 r 0 (λ g. omega arith) ∙ f.one;
      inputs = λ k below.
          ⊎_elim
          (λ (same : k ≡ i). rw same (get_or-set_same nodes (first_input + i) r 0 (omega (arith, f.long)) ∙ e))
          (λ other. get_or-set_other nodes (first_input + i) (first_input + k) r 0 (λ g. other (omega arith)) ∙ f.inputs k
          (omega (arith, other)))
          (eq-or-ne k i);
    }

least-of-one : (b : ℕ) → b < 2 → min b 1 ≡ b
least-of-one zero h = refl
least-of-one (suc zero) h = refl
least-of-one (suc (suc b)) h = absurd (omega arith)

module _ (n base : ℕ) (aligned : base % 64 ≡ 0) (cs : List Cell) where
  abbrev lanes : ℕ
  lanes = lanes_of n

  abbrev carried : ℕ → ℕ → Type 0
  carried p word = Carries lanes base (place_bit n cs p) word

  zero-carried : carried 0 0
  unfolding place_bit operand_bit
  zero-carried = record { within = pow_pos lanes; each = λ s l. bit-zero s ∙ rw operand_at-zero refl }

  one-carried : carried 1 (full lanes)
  unfolding place_bit operand_bit full
  one-carried = record { within = ones_lt lanes; each = λ s l. bit-full lanes s l ∙ rw operand_at-one refl }

  -- the bit of an input in a setting
  input-bit : (i t : ℕ) → i < max_inputs → place_bit n cs (first_input + i) t ≡ get_or (tab (bit t) n) i 0
  unfolding place_bit operand_bit setting_bits
  input-bit i t l = rw (operand_at-input i l) refl

  input-within : (i : ℕ) → bit_and (pattern base i) (full lanes) < 2 ^ lanes
  unfolding full
  input-within i = omega (arith, and_le_r (pattern base i) (full lanes), ones_lt lanes)

  input-carried : (i : ℕ) → i < max_inputs → carried (first_input + i) (input_word n base i)
  unfolding input_word
  input-carried i l = ⊎_elim there past (lt-or-le i n)
    where
      there : i < n → carried (first_input + i) (input_word n base i)
      there k =
          rw (lt-ltb i n k)
          (record {
            within = input-within i;
            each = λ s m.
                bit-and (pattern base i) (full lanes) s
                ∙ rw (bit-full lanes s m, pattern-bit base s i aligned (omega (arith, lanes_of-most n)))
                (least-of-one (bit (base + s) i) (bit-low (base + s) i)
                ∙ sym (input-bit i (base + s) l ∙ get_d-tab (bit (base + s)) n i 0 k));
          })

      past : n ≤ i → carried (first_input + i) (input_word n base i)
      past k =
          rw (le-ltb i n k)
          (record {
            within = pow_pos lanes;
            each = λ s m.
                let none : get_or (tab (bit (base + s)) n) i 0 ≡ 0 =
                get_or-eq_default (tab (bit (base + s)) n) 0 (rw (length-tab (bit (base + s)) n) k) in
                bit-zero s ∙ sym (input-bit i (base + s) l ∙ none);
          })

  inputs-ready : {nodes : List ℕ} → Filled n base max_inputs nodes → Evaluated n base cs 0 nodes
  inputs-ready {nodes} f = record { long = f.long; each = each }
    where
      each : (p : ℕ) → p < first_gate + 0 → carried p (get_or nodes p 0)
      each zero l = rw f.zero zero-carried
      each (suc zero) l = rw f.one one-carried
      each (suc (suc i)) l =
          let place : suc (suc i) ≡ first_input + i = omega arith in
          let few : i < max_inputs = omega arith in
          rw (place, f.inputs i few) (input-carried i few)

pub inputs_in : (n base : ℕ) {nodes : List ℕ} → base % 64 ≡ 0 → Filled n base max_inputs nodes → InputsIn n base nodes
inputs_in n base aligned f = record { ready = λ cs. inputs-ready n base aligned cs f }

-- ---- the cells

module _ (n base : ℕ) (table : List ℕ) (places : EarlierPlaces table) where
  abbrev cs : List Cell
  cs = table_cells table

  abbrev count : ℕ
  count = count_in table

  -- what stands at an earlier place is there
  place-earlier : (p j : ℕ) → p < first_gate + j → is_earlier j (operand_at p) ≡ true
  unfolding is_earlier
  place-earlier zero j l = rw operand_at-zero refl
  place-earlier (suc zero) j l = rw operand_at-one refl
  place-earlier (suc (suc q)) j l =
      ⊎_elim
      (λ few. let place : suc (suc q) ≡ first_input + q = omega arith in rw (place, operand_at-input q few) refl)
      (λ past.
      let place : suc (suc q) ≡ first_gate + (q - max_inputs) = omega arith in
      rw (place, operand_at-gate (q - max_inputs)) (lt-ltb (q - max_inputs) j (omega arith)))
      (lt-or-le q max_inputs)

  -- an earlier place is one of all places
  pub places-there : (j : ℕ) → j < count → CellPlaces place_count table j
  places-there j l =
      record {
        inside = λ i k. omega (arith, (places.cell j l).inside i k, places.few);
        truth = (places.cell j l).truth;
      }

  module _ (j : ℕ) (l : j < count) {nodes : List ℕ} (e : Evaluated n base cs j nodes) {used : ℕ}
      (in_use : used ≡ full (lanes_of n)) where
    abbrev place_of_operand : ℕ → ℕ
    place_of_operand i = get_or table (cell_size * j + i) 0

    operand-carried : (i : ℕ) → i < operand_words
        → Carries (lanes_of n) base (place_bit n cs (place_of_operand i)) (operand_word table j nodes i)
    unfolding operand_word
    operand-carried i k = e.each (place_of_operand i) ((places.cell j l).inside i k)

    -- the run's value of cell j, from its operands' bits
    cell-bit : (t : ℕ) → place_bit n cs (first_gate + j) t
        ≡ bit (get_or table (cell_size * j + operand_words) 0)
        (number_of_bits
        (place_bit n cs (place_of_operand 0) t
        ∷ place_bit n cs (place_of_operand 1) t
        ∷ place_bit n cs (place_of_operand 2) t
        ∷ place_bit n cs (place_of_operand 3) t
        ∷ []))
    unfolding place_bit operand_bit table_cells cell_in cell_value ran
    cell-bit t =
        rw (operand_at-gate j)
        (cell-run (setting_bits n t) (cell_in table) count j l (λ i. operand_at (place_of_operand i)) refl
        (λ i k. place-earlier (place_of_operand i) j ((places.cell j l).inside i k)))

    cell-carried : Carries (lanes_of n) base (place_bit n cs (first_gate + j)) (cell_word_at used table j nodes)
    unfolding cell_word_at
    cell-carried =
        let a = operand-carried 0 (omega arith) in
        let b = operand-carried 1 (omega arith) in
        let c = operand-carried 2 (omega arith) in
        let d = operand-carried 3 (omega arith) in
        let truth = get_or table (cell_size * j + operand_words) 0 in
        record {
          within = cell-within (lanes_of n) in_use a.within truth b.within c.within d.within;
          each = λ s m.
              cell_at (lanes_of n) in_use a.within truth b.within c.within d.within s m
              ∙ rw (a.each s m, b.each s m, c.each s m, d.each s m) (sym (cell-bit (base + s)));
        }

    pub evaluated-more : {r : ℕ} → r ≡ cell_word_at used table j nodes
        → Evaluated n base cs (j + 1) (set nodes (first_gate + j) r)
    evaluated-more {r} is =
        record {
          long = length-set nodes (first_gate + j) r ∙ e.long;
          each = λ p below.
              ⊎_elim
              (λ (same : p ≡ first_gate + j).
              let stored : get_or (set nodes (first_gate + j) r) (first_gate + j) 0 ≡ r =
              get_or-set_same nodes (first_gate + j) r 0 (omega (arith, e.long, places.few)) in
              rw (same, stored, is) cell-carried)
              (λ other. rw (get_or-set_other nodes (first_gate + j) p r 0 other) (e.each p (omega (arith, other))))
              (eq-or-ne p (first_gate + j));
        }
