-- The block that words hold, part by part, for every list of words: the counts, the names, the never lines, the gates,
-- the outputs. Cited by Intact, by Readers and by the proofs of code that reads words. Assumes nothing.
--   decode-input_count, decode-gate_count, decode-output_count, decode-never_count: the counts are the first four words
--   decode-input, decode-ports: the names, read from four words each
--   decode-gate, gate_at-kind, gate_at-count, gate_at-operand: gate j, and the parts of a gate of words
--   decode-output: output o
use mathlib.Core.Path.{◌≡◌, refl}
use mathlib.Core.List.{List, map}
use Prim.Native.Nat.{ℕ, ◌+◌, ◌*◌, ◌/◌, ◌%◌, ◌<◌}
use lib.ListN.{length, get_or}
use Rattle.prelude.specs.Lists.{tab}
use Rattle.prelude.proofs.Tab.{length-tab, get_d-tab, map-tab}
use Rattle.netlist.specs.Netlist.{Name, Operand, Output, input_count, gate_count, output_count, never_count, gate_of}
use Rattle.netlist.specs.StoredBlock.{name_size, never_size, gate_size, output_size, inputs_at, nevers_at, gates_at, outputs_at}
use Rattle.netlist.specs.StoredBlock.{name_at, never_at, operand_of, gate_at, output_at, decode}
use Rattle.theory_encoding.proofs.WellFormed.{no_gate}

module _ (ws : List ℕ) where
  -- the counts are the first four words
  pub decode-input_count : input_count (decode ws) ≡ get_or ws 0 0
  unfolding decode
  decode-input_count = length-tab (λ i. name_at ws (inputs_at + name_size * i)) (get_or ws 0 0)

  pub decode-gate_count : gate_count (decode ws) ≡ get_or ws 1 0
  unfolding decode
  decode-gate_count =
      length-tab (λ j. gate_at (get_or ws 0 0) ws (gates_at (get_or ws 0 0) (get_or ws 3 0) + gate_size * j)) (get_or ws 1 0)

  pub decode-output_count : output_count (decode ws) ≡ get_or ws 2 0
  unfolding decode
  decode-output_count = length-tab
      (λ o. output_at (get_or ws 0 0) ws (outputs_at (get_or ws 0 0) (get_or ws 3 0) (get_or ws 1 0) + output_size * o))
      (get_or ws 2 0)

  pub decode-never_count : never_count (decode ws) ≡ get_or ws 3 0
  unfolding decode
  decode-never_count = length-tab (λ i. never_at ws (nevers_at (get_or ws 0 0) + never_size * i)) (get_or ws 3 0)

  -- the name of input i
  pub decode-input : (i : ℕ) (d : Name) → i < get_or ws 0 0
      → get_or (decode ws).inputs i d ≡ name_at ws (inputs_at + name_size * i)
  unfolding decode
  decode-input i d l = get_d-tab (λ i. name_at ws (inputs_at + name_size * i)) (get_or ws 0 0) i d l

  -- gate j
  pub decode-gate : (j : ℕ) → j < get_or ws 1 0
      → gate_of (decode ws) j ≡ gate_at (get_or ws 0 0) ws (gates_at (get_or ws 0 0) (get_or ws 3 0) + gate_size * j)
  unfolding decode
  decode-gate j l = get_d-tab (λ j. gate_at (get_or ws 0 0) ws (gates_at (get_or ws 0 0) (get_or ws 3 0) + gate_size * j))
      (get_or ws 1 0) j no_gate l

  -- output o
  pub decode-output : (o : ℕ) (d : Output) → o < get_or ws 2 0
      → get_or (decode ws).outputs o d
      ≡ output_at (get_or ws 0 0) ws (outputs_at (get_or ws 0 0) (get_or ws 3 0) (get_or ws 1 0) + output_size * o)
  unfolding decode
  decode-output o d l = get_d-tab
      (λ o. output_at (get_or ws 0 0) ws (outputs_at (get_or ws 0 0) (get_or ws 3 0) (get_or ws 1 0) + output_size * o))
      (get_or ws 2 0) o d l

  -- the ports
  pub decode-ports : map (λ (o : Output). o.port) (decode ws).outputs
      ≡ tab (λ o. name_at ws (outputs_at (get_or ws 0 0) (get_or ws 3 0) (get_or ws 1 0) + output_size * o)) (get_or ws 2 0)
  unfolding decode output_at
  decode-ports =
      map-tab (λ (o : Output). o.port)
      (λ o. output_at (get_or ws 0 0) ws (outputs_at (get_or ws 0 0) (get_or ws 3 0) (get_or ws 1 0) + output_size * o))
      (get_or ws 2 0)

-- ---- one gate of words

module _ (n : ℕ) (ws : List ℕ) (at : ℕ) where
  pub gate_at-kind : (gate_at n ws at).kind ≡ get_or ws at 0 % 8
  unfolding gate_at
  gate_at-kind = refl

  pub gate_at-count : length (gate_at n ws at).operands ≡ get_or ws at 0 / 8
  unfolding gate_at
  gate_at-count = length-tab (λ i. operand_of n (get_or ws (at + 1 + i) 0)) (get_or ws at 0 / 8)

  pub gate_at-operand : (i : ℕ) (d : Operand) → i < get_or ws at 0 / 8
      → get_or (gate_at n ws at).operands i d ≡ operand_of n (get_or ws (at + 1 + i) 0)
  unfolding gate_at
  gate_at-operand i d l = get_d-tab (λ i. operand_of n (get_or ws (at + 1 + i) 0)) (get_or ws at 0 / 8) i d l
