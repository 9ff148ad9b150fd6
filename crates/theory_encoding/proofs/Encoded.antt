-- The words of a block: their number, and where each part's words stand. Cited by RoundTrip and Readers.
-- Assumes nothing.
--   length-encode: the number of words
--   encode-input, encode-never, encode-gate, encode-output: where each part's words stand
use mathlib.Core.Path.{◌≡◌, refl, sym, ap, ◌∙◌}
use mathlib.Core.List.{List, [], ◌∷◌, ◌++◌, map, append_assoc, append-nil}
use Prim.Native.Nat.{ℕ, ◌+◌, ◌*◌, ◌<◌}
use native.Mathlib.Nat.{add_assoc}
use native.Mathlib.Omega.{arith}
use lib.ListN.{length, get_or, length-append}
use Rattle.prelude.specs.Lists.{joined}
use Rattle.netlist.specs.Assignments.{Assignment}
use Rattle.netlist.specs.Netlist.{Name, Output, Block, input_count, gate_count, output_count, never_count, gate_of}
use Rattle.netlist.specs.StoredBlock.{name_size, never_size, gate_size, output_size, inputs_at, nevers_at, gates_at, outputs_at}
use Rattle.netlist.specs.StoredBlock.{name_words, never_words, gate_words, output_words, encode}
use Rattle.theory_encoding.proofs.ListFacts.{length-joined, get_d-joined, get_d-middle}
use Rattle.theory_encoding.proofs.Names.{length-name_words}
use Rattle.theory_encoding.proofs.Gates.{length-gate_words, GateStands}
use Rattle.theory_encoding.proofs.Outputs.{length-output_words, OutputStands}
use Rattle.theory_encoding.proofs.WellFormed.{no_gate}

-- the words of the inputs, the never lines, the gates and the outputs
input_part : Block → List ℕ
input_part b = joined (map name_words b.inputs)

never_part : Block → List ℕ
never_part b = joined (map never_words b.nevers)

gate_part : Block → List ℕ
gate_part b = joined (map (gate_words (input_count b)) b.gates)

output_part : Block → List ℕ
output_part b = joined (map (output_words (input_count b)) b.outputs)

header : Block → List ℕ
header b = input_count b ∷ gate_count b ∷ output_count b ∷ never_count b ∷ []

module _ (b : Block) where
  encode-parts : encode b ≡ header b ++ input_part b ++ never_part b ++ gate_part b ++ output_part b
  unfolding encode header input_part never_part gate_part output_part
  encode-parts = refl

  length-input_part : length (input_part b) ≡ name_size * input_count b
  unfolding input_part
  length-input_part = length-joined name_words name_size length-name_words b.inputs

  length-never_part : length (never_part b) ≡ never_size * never_count b
  unfolding never_part never_words
  length-never_part = length-joined never_words never_size (λ _. refl) b.nevers

  length-gate_part : length (gate_part b) ≡ gate_size * gate_count b
  unfolding gate_part
  length-gate_part = length-joined (gate_words (input_count b)) gate_size (length-gate_words (input_count b)) b.gates

  length-output_part : length (output_part b) ≡ output_size * output_count b
  unfolding output_part
  length-output_part =
      length-joined (output_words (input_count b)) output_size (length-output_words (input_count b)) b.outputs

  length-before-nevers : length (header b ++ input_part b) ≡ nevers_at (input_count b)
  unfolding nevers_at header
  length-before-nevers = rw (length-append (header b) (input_part b), length-input_part)

  length-before-gates : length (header b ++ input_part b ++ never_part b) ≡ gates_at (input_count b) (never_count b)
  unfolding gates_at
  length-before-gates =
      rw (length-append (header b ++ input_part b) (never_part b), length-before-nevers, length-never_part)

  length-before-outputs : length (header b ++ input_part b ++ never_part b ++ gate_part b)
      ≡ outputs_at (input_count b) (never_count b) (gate_count b)
  unfolding outputs_at
  length-before-outputs =
      rw (length-append (header b ++ input_part b ++ never_part b) (gate_part b), length-before-gates, length-gate_part)

  -- the length is the one that the counts give
  pub length-encode : length (encode b) ≡ outputs_at (input_count b) (never_count b) (gate_count b) + output_size
      * output_count b
  length-encode =
      rw (
        encode-parts,
        length-append (header b ++ input_part b ++ never_part b ++ gate_part b) (output_part b),
        length-before-outputs,
        length-output_part,
      )

  -- the names, and all that stands behind them
  input-first : encode b ≡ header b ++ input_part b ++ (never_part b ++ (gate_part b ++ output_part b))
  input-first =
      encode-parts
      ∙ append_assoc (header b ++ input_part b ++ never_part b) (gate_part b) (output_part b)
      ∙ append_assoc (header b ++ input_part b) (never_part b) (gate_part b ++ output_part b)

  -- behind the counts stand the names of the inputs
  pub encode-input : (j : ℕ) (d : Name) → j < input_count b
      → (i : ℕ) → i < name_size → get_or (encode b) (inputs_at + name_size * j + i) 0
      ≡ get_or (name_words (get_or b.inputs j d)) i 0
  unfolding header input_part
  encode-input j d h i l =
      ap (λ (p : ℕ). get_or (encode b) p 0) (add_assoc inputs_at (name_size * j) i)
      ∙ ap (λ (ws : List ℕ). get_or ws (inputs_at + (name_size * j + i)) 0) input-first
      ∙ get_d-middle (header b) (input_part b) (never_part b ++ (gate_part b ++ output_part b)) inputs_at
      (name_size * j + i) 0 refl
      (rw length-input_part (omega arith))
      ∙ get_d-joined name_words name_size length-name_words b.inputs j i d 0 h l

  -- behind the names stand the never lines
  pub encode-never : (j : ℕ) (d : Assignment) → j < never_count b
      → (i : ℕ) → i < never_size → get_or (encode b) (nevers_at (input_count b) + never_size * j + i) 0
      ≡ get_or (never_words (get_or b.nevers j d)) i 0
  unfolding never_part never_words
  encode-never j d h i l =
      ap (λ (p : ℕ). get_or (encode b) p 0) (add_assoc (nevers_at (input_count b)) (never_size * j) i)
      ∙ ap (λ (ws : List ℕ). get_or ws (nevers_at (input_count b) + (never_size * j + i)) 0)
      (encode-parts ∙ append_assoc (header b ++ input_part b ++ never_part b) (gate_part b) (output_part b))
      ∙ get_d-middle (header b ++ input_part b) (never_part b) (gate_part b ++ output_part b) (nevers_at (input_count b))
      (never_size * j + i) 0 length-before-nevers
      (rw length-never_part (omega arith))
      ∙ get_d-joined never_words never_size (λ _. refl) b.nevers j i d 0 h l

  -- behind the never lines stand the gates
  pub encode-gate : (j : ℕ) → j < gate_count b
      → GateStands (input_count b) (encode b) (gates_at (input_count b) (never_count b) + gate_size * j) (gate_of b j)
  unfolding gate_part
  encode-gate j h i l =
      ap (λ (p : ℕ). get_or (encode b) p 0) (add_assoc (gates_at (input_count b) (never_count b)) (gate_size * j) i)
      ∙ ap (λ (ws : List ℕ). get_or ws (gates_at (input_count b) (never_count b) + (gate_size * j + i)) 0) encode-parts
      ∙ get_d-middle (header b ++ input_part b ++ never_part b) (gate_part b) (output_part b)
      (gates_at (input_count b) (never_count b)) (gate_size * j + i) 0
      length-before-gates (rw length-gate_part (omega arith))
      ∙ get_d-joined (gate_words (input_count b)) gate_size (length-gate_words (input_count b)) b.gates j i no_gate 0 h l

  -- behind the gates stand the outputs
  pub encode-output : (o : ℕ) (d : Output) → o < output_count b
      → OutputStands (input_count b) (encode b) (outputs_at (input_count b) (never_count b) (gate_count b) + output_size * o)
      (get_or b.outputs o d)
  unfolding output_part
  encode-output o d h i l =
      ap (λ (p : ℕ). get_or (encode b) p 0)
      (add_assoc (outputs_at (input_count b) (never_count b) (gate_count b)) (output_size * o) i)
      ∙ ap (λ (ws : List ℕ). get_or ws (outputs_at (input_count b) (never_count b) (gate_count b) + (output_size * o + i)) 0)
      (encode-parts ∙ sym (append-nil (header b ++ input_part b ++ never_part b ++ gate_part b ++ output_part b)))
      ∙ get_d-middle (header b ++ input_part b ++ never_part b ++ gate_part b) (output_part b) []
      (outputs_at (input_count b) (never_count b) (gate_count b)) (output_size * o + i) 0 length-before-outputs
      (rw length-output_part (omega arith))
      ∙ get_d-joined (output_words (input_count b)) output_size (length-output_words (input_count b)) b.outputs o i d 0 h l
