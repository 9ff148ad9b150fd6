-- A run's cells one by one, against the definitions. Assumes nothing.
--   input-bit, zero_bit, one_bit, cell-bit   the bit of an operand's word
--   cell-value-is                            a cell's value, from its four bits and its truth word
--   ran, ran_bits, ran-more                  the values of the first j cells
--   length-values                            a value for each cell
use mathlib.Core.Path.{◌≡◌, refl, sym, ◌∙◌}
use mathlib.Core.List.{List, [], ◌∷◌, ◌++◌}
use Prim.Native.Nat.{ℕ, ◌+◌, ◌-◌, ◌*◌, ◌/◌, ◌%◌, ◌^◌, ◌≤◌, ◌<◌}
use native.Mathlib.Numerals.{add-one}
use native.Mathlib.Nat.{zero-add, add-zero}
use native.Mathlib.Omega.{arith}
use lib.ListN.{length, get_or, take, length-append}
use borrow.Author.Tests.{lt-ltb, le-ltb, ne_eqb}
use Rattle.prelude.specs.Lists.{tab}
use Rattle.prelude.proofs.Slices.{take-placed}
use Rattle.prelude.proofs.Tab.{length-tab}
use Rattle.prelude.proofs.Filling.{Filling}
use Rattle.netlist.specs.Assignments.{bit}
use Rattle.netlist.specs.StoredBlock.{operand_words, operand_of}
use Rattle.netlist.specs.Cells.{cell_size, Cell, cell_count, cell_at, cells_in, operand_bit, number_of_bits, cell_value}
use Rattle.netlist.specs.Cells.{run_from, cell_values}
use Rattle.op_cells.specs.Runs.{Bits}
use Rattle.op_cells.proofs.Bits.{bit-most, bits-more}

-- ---- an operand

module _ (n : ℕ) (setting found : List ℕ) (word : ℕ) where
  pub input-bit : word < n → operand_bit setting found (operand_of n word) ≡ get_or setting word 0
  unfolding operand_bit operand_of
  input-bit h = rw (lt-ltb word n h)

  pub zero_bit : n ≤ word → word ≡ 65534 → operand_bit setting found (operand_of n word) ≡ 0
  unfolding operand_bit operand_of
  zero_bit h e = rw (le-ltb word n h, e)

  pub one_bit : n ≤ word → word ≡ 65535 → operand_bit setting found (operand_of n word) ≡ 1
  unfolding operand_bit operand_of
  one_bit h e = rw (le-ltb word n h, e)

  pub cell-bit : n ≤ word → (word ≡ 65534 → ⊥) → (word ≡ 65535 → ⊥)
      → operand_bit setting found (operand_of n word) ≡ get_or found (word - n) 0
  unfolding operand_bit operand_of
  cell-bit h p q = rw (le-ltb word n h, ne_eqb word 65534 p, ne_eqb word 65535 q)

-- ---- a cell

place_is : (a b c d : ℕ) → a + 2 * b + 4 * c + 8 * d ≡ number_of_bits (a ∷ b ∷ c ∷ d ∷ [])
unfolding number_of_bits
place_is a b c d = omega arith

module _ (n : ℕ) (cells : List ℕ) (at : ℕ) (setting found : List ℕ) where
  -- the bit of operand i
  abbrev pub bit_of : ℕ → ℕ
  bit_of i = operand_bit setting found (operand_of n (get_or cells (at + i) 0))

  pub cell-value-is : {a b c d truth : ℕ} → a ≡ bit_of 0 → b ≡ bit_of 1 → c ≡ bit_of 2 → d ≡ bit_of 3
      → truth ≡ get_or cells (at + operand_words) 0
      → truth / 2 ^ (a + 2 * b + 4 * c + 8 * d) % 2 ≡ cell_value setting found (cell_at n cells at)
  unfolding cell_value cell_at bit
  cell-value-is {a} {b} {c} {d} {truth} ea eb ec ed et = rw (place_is a b c d, ea, eb, ec, ed, et)

-- ---- the cells in order

run-append : (setting found : List ℕ) (cs : List Cell) (c : Cell)
    → run_from setting found (cs ++ (c ∷ []))
    ≡ run_from setting found cs ++ (cell_value setting (run_from setting found cs) c ∷ [])
unfolding run_from
run-append setting found [] c = refl
run-append setting found (d ∷ cs) c = run-append setting (found ++ (cell_value setting found d ∷ [])) cs c

length_run : (setting found : List ℕ) (cs : List Cell) → length (run_from setting found cs) ≡ length found + length cs
unfolding run_from
length_run setting found [] = sym (add-zero (length found))
length_run setting found (c ∷ cs) =
    length_run setting (found ++ (cell_value setting found c ∷ [])) cs ∙ simp length-append (omega arith)

run-bits : (setting found : List ℕ) (cs : List Cell) → Bits found → Bits (run_from setting found cs)
unfolding run_from cell_value
run-bits setting found [] h = h
run-bits setting found (c ∷ cs) h =
    run-bits setting (found ++ (cell_value setting found c ∷ [])) cs (bits-more found _ h (bit-most _ _))

module _ (n : ℕ) (cells setting : List ℕ) where
  abbrev cell : ℕ → Cell
  cell j = cell_at n cells (cell_size * j)

  -- the values of the first j cells
  unfoldable pub ran : ℕ → List ℕ
  ran j = run_from setting [] (tab cell j)

  pub ran-none : ran 0 ≡ []
  unfolding ran run_from
  ran-none = refl

  pub ran_bits : (j : ℕ) → Bits (ran j)
  unfolding ran
  ran_bits j = run-bits setting [] (tab cell j) (λ i. omega arith)

  -- cell j is evaluated from those before it
  pub ran-more : (entry values : List ℕ) (j r : ℕ) → Filling entry values (ran j) j
      → r ≡ cell_value setting (take j values) (cell j)
      → ran (j + 1) ≡ ran j ++ (r ∷ [])
  unfolding ran
  ran-more entry values j r f e =
      let t : take j values ≡ ran j = rw f.holds (take-placed (ran j) entry j f.long) in
      rw (add-one, run-append setting [] (tab cell j) (cell j), e, t)

  -- what is read of the values found so far
  pub found-bits : (entry values : List ℕ) (j : ℕ) → Filling entry values (ran j) j → Bits (take j values)
  found-bits entry values j f = rw (f.holds, take-placed (ran j) entry j f.long) (ran_bits j)

  -- all of them
  pub ran-all : ran (cell_count cells) ≡ cell_values n cells setting
  unfolding ran cell_values cells_in
  ran-all = refl

  pub length-values : length (cell_values n cells setting) ≡ cell_count cells
  unfolding cell_values cells_in
  length-values = length_run setting [] (tab cell (cell_count cells)) ∙ zero-add _ ∙ length-tab cell (cell_count cells)
