-- A run of cells of which each reads only what is earlier: the run's values give each cell's operands, so that no cell
-- asks how far the run has come.
--   run-more, length-ran, ran-prefix   the values of the first cells
--   cell-run                           a cell's value from the whole run's
-- Assumes nothing.
use mathlib.Core.Path.{◌≡◌, refl, sym, ap, ◌∙◌}
use mathlib.Core.List.{List, [], ◌∷◌, ◌++◌, map}
use Prim.Native.Nat.{ℕ, zero, suc, ◌+◌, ◌-◌, ◌≤◌, ◌<◌}
use native.Mathlib.Omega.{arith}
use lib.ListN.{length, get_or, length-append, get_or-append}
use lib.Seq.{get_or_at}
use mathlib.Core.Bool.{true}
use borrow.Author.Tests.{ltb-true}
use Rattle.prelude.specs.Lists.{tab}
use Rattle.prelude.proofs.Tab.{map-tab, tab-ext}
use Rattle.netlist.specs.Assignments.{bit}
use Rattle.netlist.specs.Netlist.{Operand, input, gate, constant}
use Rattle.netlist.specs.StoredBlock.{operand_words}
use Rattle.netlist.specs.Cells.{Cell, is_earlier, operand_bit, number_of_bits, cell_value, run_from}

run-append : (x found : List ℕ) (cs : List Cell) (c : Cell)
    → run_from x found (cs ++ (c ∷ [])) ≡ run_from x found cs ++ (cell_value x (run_from x found cs) c ∷ [])
unfolding run_from
run-append x found [] c = refl
run-append x found (d ∷ cs) c = run-append x (found ++ (cell_value x found d ∷ [])) cs c

module _ (x : List ℕ) (cell : ℕ → Cell) where
  -- the values of the first j cells
  unfoldable pub ran : ℕ → List ℕ
  ran j = run_from x [] (tab cell j)

  ran-more : (j : ℕ) → ran (suc j) ≡ ran j ++ (cell_value x (ran j) (cell j) ∷ [])
  unfolding ran
  ran-more j = run-append x [] (tab cell j) (cell j)

  length-ran : (j : ℕ) → length (ran j) ≡ j
  unfolding ran run_from
  length-ran zero = refl
  length-ran (suc j) = ap length (ran-more j) ∙ simp length-append (omega (arith, length-ran j))

  -- later cells change no earlier value
  ran-prefix : (m j k : ℕ) → k < j → get_or (ran (m + j)) k 0 ≡ get_or (ran j) k 0
  ran-prefix zero j k l = let z : zero + j ≡ j = omega arith in rw z
  ran-prefix (suc m) j k l =
      let z : suc m + j ≡ suc (m + j) = omega arith in
      let last = cell_value x (ran (m + j)) (cell (m + j)) in
      rw (z, ran-more (m + j))
      (get_or-append (ran (m + j)) (last ∷ []) 0 k (omega (arith, length-ran (m + j))) ∙ ran-prefix m j k l)

  ran-at : (j : ℕ) → get_or (ran (suc j)) j 0 ≡ cell_value x (ran j) (cell j)
  ran-at j = rw (ran-more j) (get_or_at (ran j) (cell_value x (ran j) (cell j)) [] 0 j (length-ran j))

  module _ (count : ℕ) where
    within : (j k : ℕ) → k < j → j ≤ count → get_or (ran count) k 0 ≡ get_or (ran j) k 0
    within j k l most = let z : count - j + j ≡ count = omega arith in rw z at (ran-prefix (count - j) j k l)

    same_bit : (j : ℕ) → j ≤ count → (o : Operand) → is_earlier j o ≡ true
        → operand_bit x (ran j) o ≡ operand_bit x (ran count) o
    unfolding operand_bit is_earlier
    same_bit j most (input i) e = refl
    same_bit j most (gate k) e = sym (within j k (ltb-true k j e) most)
    same_bit j most (constant c) e = refl

    -- cell j has the operands `operand` 0 to 3
    pub cell-run : (j : ℕ) → j < count → (operand : ℕ → Operand) → (cell j).operands ≡ tab operand operand_words
        → ((i : ℕ) → i < operand_words → is_earlier j (operand i) ≡ true)
        → get_or (ran count) j 0 ≡ cell_value x (ran count) (cell j)
    unfolding cell_value
    cell-run j l operand is earlier =
        let most : j ≤ count = omega arith in
        let bits : map (operand_bit x (ran j)) (cell j).operands ≡ map (operand_bit x (ran count)) (cell j).operands =
        rw is
        (map-tab (operand_bit x (ran j)) operand operand_words
        ∙ tab-ext (λ i. operand_bit x (ran j) (operand i)) (λ i. operand_bit x (ran count) (operand i)) operand_words
        (λ i k. same_bit j most (operand i) (earlier i k))
        ∙ sym (map-tab (operand_bit x (ran count)) operand operand_words)) in
        within (suc j) j (omega arith) (omega arith) ∙ ran-at j
        ∙ ap (λ (vs : List ℕ). bit (cell j).truth (number_of_bits vs)) bits
