-- A run of a straight block's cells gives the values of one sweep, which are Pass's and Settle's.
--   gate-agrees    one cell: its value is the gate's, from the same setting and the same values found
--   cells-pass     all of them, for every straight well-formed block and every setting of 0s and 1s
-- Assumes nothing.
use mathlib.Core.Path.{◌≡◌, refl, sym, ap, ◌∙◌}
use mathlib.Core.Bool.{true, false}
use mathlib.Core.List.{List, [], ◌∷◌, ◌++◌, map, map-append}
use Prim.Native.Nat.{ℕ, suc, ◌+◌, ◌≤◌, ◌<◌}
use native.Mathlib.Nat.{add-zero, zero-add}
use native.Mathlib.Omega.{arith}
use lib.ListN.{length, get_or, length-append}
use lib.Dec.{eqb}
use borrow.Author.Tests.{ltb-true}
use Rattle.prelude.proofs.Tab.{get_d-tab, tab-ext, tab-get_d, map-tab}
use Rattle.netlist.specs.Values.{Value, val, code, value_of}
use Rattle.netlist.specs.Kinds.{gate_value}
use Rattle.netlist.specs.Assignments.{bit}
use Rattle.netlist.specs.Netlist.{Operand, input, gate, constant, Gate, Block, input_count, gate_count, gate_of}
use Rattle.netlist.specs.StoredBlock.{is_node, is_operand, gate_fits, is_well_formed}
use Rattle.netlist.specs.Rounds.{operand_value, evaluated, setting_of}
use Rattle.netlist.specs.Rendering.{is_straight, sweep_from, sweep}
use Rattle.netlist.specs.Cells.{truth_bit, cells_of, is_earlier, operand_bit, number_of_bits, cell_value, run_from, cell_values}
use Rattle.theory_encoding.proofs.Gates.{fits-kind, fits-arity, arity-four}
use Rattle.theory_encoding.proofs.WellFormed.{no_gate}
use Rattle.theory_encoding.proofs.Readers.{well_formed-gate}
use Rattle.theory_fixpoint.proofs.Values.{value_of-code}
use Rattle.theory_fixpoint.proofs.Sweep.{sweep-settled}
use Rattle.op_cells.specs.Runs.{Bits}
use Rattle.op_cells.specs.Promise.{is_two_valued, AgreesWith}
use Rattle.op_cells.proofs.TruthWords.{truth-bit}
use Rattle.op_cells.proofs.Bits.{bit-most, bits-more, bits_of, value_read, codes-of, place-low, place-bit}
use Rattle.op_cells.proofs.Made.{operand_for, cell_for, operand-there, cells-made, cells_of-count}
use Rattle.op_cells.proofs.Earlier.{operand-earlier, made-legal}

-- ---- what a run reads

module _ (setting found : List ℕ) (bits : Bits setting) (more : Bits found) where
  pub operand-most : (o : Operand) → operand_bit setting found o ≤ 1
  unfolding operand_bit
  operand-most (input i) = bits i
  operand-most (gate j) = more j
  operand-most (constant false) = omega arith
  operand-most (constant true) = omega arith

  -- the bit of an operand that is there stands for its value
  operand_agrees : (b : Block) → length setting ≡ input_count b → (o : Operand) → is_operand b o ≡ true
      → is_earlier (length found) o ≡ true
      → val (eqb (operand_bit setting found o) 1) ≡ operand_value (map value_of setting) (map value_of found) o
  unfolding operand_bit operand_value is_operand is_node is_earlier
  operand_agrees b e (input i) t u = value_read setting bits i (rw e (ltb-true i (input_count b) t))
  operand_agrees b e (gate j) t u = value_read found more j (ltb-true j (length found) u)
  operand_agrees b e (constant false) t u = refl
  operand_agrees b e (constant true) t u = refl

-- ---- one cell

-- the gate fits, and its operands are there when j cells have been run
pub record ReadyAt (b : Block) (j : ℕ) (g : Gate) : Type 0 where
  pub fits : gate_fits b g ≡ true
  pub earlier : (i : ℕ) → is_earlier j (operand_for g i) ≡ true

module _ (b : Block) (setting : List ℕ) (long : length setting ≡ input_count b) (bits : Bits setting) where
  abbrev x : List Value
  x = map value_of setting

  module _ (found : List ℕ) (more : Bits found) (g : Gate) (ready : ReadyAt b (length found) g) where
    abbrev operand : ℕ → ℕ
    operand i = operand_bit setting found (operand_for g i)

    abbrev count : ℕ
    count = length g.operands

    abbrev place : ℕ
    place = number_of_bits (operand 0 ∷ operand 1 ∷ operand 2 ∷ operand 3 ∷ [])

    most : (i : ℕ) → operand i ≤ 1
    most i = operand-most setting found bits more (operand_for g i)

    -- the operands' values are the bits of the place
    values-chosen : setting_of count place ≡ map (operand_value x (map value_of found)) g.operands
    unfolding setting_of
    values-chosen =
        let value = operand_value x (map value_of found) in
        tab-ext (λ i. val (eqb (bit place i) 1)) (λ i. value (operand_for g i)) count
        (λ i l.
        let few : i < 4 = omega (arith, arity-four g.kind count (fits-arity b g ready.fits)) in
        ap (λ (v : ℕ). val (eqb v 1)) (place-bit _ _ _ _ (most 0) (most 1) (most 2) (most 3) i few
        ∙ get_d-tab operand 4 i 0 few)
        ∙ operand_agrees setting found bits more b long (operand_for g i) (operand-there b g ready.fits i)
        (ready.earlier i))
        ∙ sym (map-tab value (operand_for g) count)
        ∙ ap (map value) (tab-get_d (constant false) g.operands count refl)

    pub gate-agrees : cell_value setting found (cell_for g) ≡ code (evaluated x (map value_of found) g)
    unfolding cell_value cell_for truth_bit evaluated
    gate-agrees =
        truth-bit g.kind count place (fits-kind b g ready.fits) (fits-arity b g ready.fits)
        (place-low _ _ _ _ (most 0) (most 1) (most 2) (most 3))
        ∙ ap (λ (vs : List Value). code (gate_value g.kind vs)) values-chosen

  gate-bits : (found : List ℕ) → Bits found → (g : Gate) → Bits (found ++ (cell_value setting found (cell_for g) ∷ []))
  unfolding cell_value
  gate-bits found more g = bits-more found _ more (bit-most _ _)

  -- ---- all cells

  run-sweep : (gs : List Gate) (found : List ℕ) → Bits found
      → ((i : ℕ) → i < length gs → ReadyAt b (length found + i) (get_or gs i no_gate))
      → run_from setting found (map cell_for gs) ≡ map code (sweep_from x (map value_of found) gs)
  unfolding run_from sweep_from
  run-sweep [] found more ready = codes-of found more
  run-sweep (g ∷ gs) found more ready =
      let here : ReadyAt b (length found) g = rw (add-zero (length found)) at (ready 0 (omega arith)) in
      let v = cell_value setting found (cell_for g) in
      let agrees : v ≡ code (evaluated x (map value_of found) g) = gate-agrees found more g here in
      let next : map value_of (found ++ (v ∷ [])) ≡ map value_of found ++ (evaluated x (map value_of found) g ∷ []) =
      map-append value_of found (v ∷ []) ∙ ap (λ (w : Value). map value_of found ++ (w ∷ []))
      (ap value_of agrees ∙ value_of-code _) in
      rw (← next)
      (run-sweep gs (found ++ (v ∷ [])) (gate-bits found more g)
      (λ i l. let place : length (found ++ (v ∷ [])) + i
      ≡ length found + suc i = simp length-append (omega arith) in rw place (ready (suc i) (omega arith))))

-- ---- a straight block

-- the gates of a straight block are ready in their order
straight-ready : (b : Block) → is_well_formed b ≡ true → is_straight b ≡ true → (j : ℕ) → j < gate_count b
    → ReadyAt b j (gate_of b j)
straight-ready b h straight j l =
    record { fits = well_formed-gate b h j l; earlier = λ i. operand-earlier b straight j i l }

-- the value of each gate
swept : (b : Block) → is_well_formed b ≡ true → is_straight b ≡ true → (setting : List ℕ) → length setting ≡ input_count b
    → is_two_valued setting ≡ true
    → cell_values (input_count b) (cells_of b) setting ≡ map code (sweep b (map value_of setting))
unfolding cell_values sweep is_two_valued
swept b h straight setting e t =
    rw (cells-made b h)
    (run-sweep b setting e (bits_of setting t) b.gates [] (λ i. omega arith)
    (λ i l. rw (zero-add i) (straight-ready b h straight i l)))

pub cells-pass : (b : Block) → is_well_formed b ≡ true → is_straight b ≡ true → AgreesWith b (cells_of b)
cells-pass b h straight =
    record {
      word_for_word = refl;
      legal = made-legal b straight h;
      one_each = cells_of-count b;
      swept = swept b h straight;
      settles =
          λ setting e t. swept b h straight setting e t
          ∙ ap (map code) (sweep-settled b (map value_of setting) straight);
    }
