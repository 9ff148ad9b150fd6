-- The words that are written are those of the definitions: a mapped word is the word of the copied operand, the words
-- of a copy and of an output are those of the rendering's. Cited by Written. Assumes nothing.
use Prim.Native.Nat.{ℕ, ◌+◌, ◌-◌, ◌*◌, ◌/◌, ◌≤◌, ◌<◌}
use mathlib.Core.Path.{◌≡◌, refl, sym, ap, ap₂, ◌∙◌}
use mathlib.Core.Logic.{inl, inr, ⊎_elim}
use mathlib.Core.Bool.{false}
use mathlib.Core.List.{List, [], ◌∷◌, ◌++◌, map}
use native.Mathlib.Nat.{add-zero}
use native.Mathlib.Omega.{arith}
use lib.ListN.{length, get_or, set, drop, replicate, length-replicate, get_or-replicate, get_or-append}
use lib.Seq.{get_or-set_same, get_or-set_other}
use Rattle.prelude.specs.Lists.{placed}
use Rattle.prelude.proofs.Tab.{tab-ext}
use Rattle.prelude.proofs.Tests.{lt-or-le, eq-or-ne}
use Rattle.words_layout.specs.declared.nodes.Nodes.{Nodes}
use Rattle.netlist.specs.Netlist.{Operand, gate, constant}
use Rattle.netlist.specs.StoredBlock.{node_word, operand_of, name_at, gate_words, gate_at, output_words}
use Rattle.netlist.specs.Rendering.{copied_operand, copied}
use Rattle.theory_encoding.proofs.ListFacts.{get_d_map}
use Rattle.theory_encoding.proofs.Names.{name_words-name_at}
use Rattle.theory_encoding.proofs.Nodes.{operand_of-input, operand_of-zero, operand_of-one, operand_of-gate}
use Rattle.theory_encoding.proofs.Gates.{no-operand-word}
use Rattle.theory_encoding.proofs.Decoded.{gate_at-kind, gate_at-count, gate_at-operand}
use Rattle.theory_encoding.proofs.Readers.{OperandWord, GateWhole}
use Rattle.theory_unrolling.proofs.Copies.{copied-kind, length-copied, get_d-copied}
use Rattle.unroll_emission.specs.Words.{mapped_word, entry_word, entry_words, gate_entry, output_entry}
use Rattle.unroll_emission.proofs.Words.{mapped-gate, mapped-other, entry-mapped, entry_kept}

-- the table's word for each gate is that of what stands for it
abbrev pub Stands : Nodes → List ℕ → List Operand → Type 0
Stands nodes table newest =
    (j : ℕ) → j < nodes.gates → get_or table j 0 ≡ node_word nodes.inputs (get_or newest j (constant false))

module _ (nodes : Nodes) (few : nodes.inputs + nodes.gates ≤ 65534) (table : List ℕ) (newest : List Operand)
    (stands : Stands nodes table newest) where
  abbrev n : ℕ
  n = nodes.inputs

  abbrev m : ℕ
  m = nodes.gates

  -- A mapped word is the word of the copied operand.
  pub mapped-operand : (w : ℕ) → OperandWord (n + m) w
      → mapped_word nodes table w ≡ node_word n (copied_operand newest (operand_of n w))
  unfolding node_word copied_operand
  mapped-operand w (inl l) = ⊎_elim low high (lt-or-le w n)
    where
      low : w < n → mapped_word nodes table w ≡ node_word n (copied_operand newest (operand_of n w))
      low k = rw (operand_of-input n w k) (mapped-other nodes table w (inl k))

      high : n ≤ w → mapped_word nodes table w ≡ node_word n (copied_operand newest (operand_of n w))
      high k = rw (operand_of-gate n w k (omega arith)) (mapped-gate nodes table w k l ∙ stands (w - n) (omega arith))
  mapped-operand w (inr (inl e)) = rw (e, operand_of-zero n (omega arith)) (mapped-other nodes table 65534 (inr few))
  mapped-operand w (inr (inr e)) =
      rw (e, operand_of-one n (omega arith)) (mapped-other nodes table 65535 (inr (omega arith)))

  -- operand word i of a gate's copy
  operand-word : (ws : List ℕ) (at : ℕ) → GateWhole ws (n + m) at → (i : ℕ) → i < 4
      → entry_word ws nodes (gate_entry ws at) table (1 + i)
      ≡ get_or (map (node_word n) (copied newest (gate_at n ws at)).operands) i 0
  operand-word ws at whole i l = ⊎_elim used unused (lt-or-le i (get_or ws at 0 / 8))
    where
      os : List Operand
      os = (copied newest (gate_at n ws at)).operands

      length-os : length os ≡ get_or ws at 0 / 8
      length-os = length-copied newest (gate_at n ws at) ∙ gate_at-count n ws at

      place : at + (1 + i) ≡ at + 1 + i
      place = omega arith

      used : i < get_or ws at 0 / 8 → entry_word ws nodes (gate_entry ws at) table (1 + i) ≡ get_or (map (node_word n) os) i 0
      used k =
          entry-mapped ws nodes (gate_entry ws at) table (1 + i) (omega arith) (omega arith)
          ∙ rw place (mapped-operand (get_or ws (at + 1 + i) 0) (whole.operands i k))
          ∙ sym
          (get_d_map (node_word n) os i (constant false) 0 (rw length-os k)
          ∙ ap (node_word n)
          (get_d-copied newest (gate_at n ws at) i
          ∙ ap (copied_operand newest) (gate_at-operand n ws at i (constant false) k)))

      unused : get_or ws at 0 / 8 ≤ i → entry_word ws nodes (gate_entry ws at) table (1 + i)
          ≡ get_or (map (node_word n) os) i 0
      unused k =
          entry_kept ws nodes (gate_entry ws at) table (1 + i) (inr (omega arith))
          ∙ rw place (whole.unused i k l)
          ∙ sym (no-operand-word n os i (rw length-os k))

  -- The words of a gate's copy are those written for it.
  pub copy-words : (ws : List ℕ) (at : ℕ) → GateWhole ws (n + m) at
      → entry_words ws nodes (gate_entry ws at) table ≡ gate_words n (copied newest (gate_at n ws at))
  unfolding entry_words gate_words
  copy-words ws at whole =
      ap₂ {C = List ℕ} (λ (x : ℕ) (xs : List ℕ). x ∷ xs) head
      (tab-ext (λ i. entry_word ws nodes (gate_entry ws at) table (1 + i))
      (λ i. get_or (map (node_word n) (copied newest (gate_at n ws at)).operands) i 0) 4 (operand-word ws at whole))
    where
      head : entry_word ws nodes (gate_entry ws at) table 0
          ≡ (copied newest (gate_at n ws at)).kind + 8 * length (copied newest (gate_at n ws at)).operands
      head =
          rw (
            length-copied newest (gate_at n ws at),
            gate_at-count n ws at,
            copied-kind newest (gate_at n ws at),
            gate_at-kind n ws at,
          )
          (entry_kept ws nodes (gate_entry ws at) table 0 (inl (omega arith)) ∙ rw add-zero (omega arith))

  -- The words of an output are those written for it.
  pub shown-words : (ws : List ℕ) (at : ℕ) → get_or ws (at + 4) 0 < n + m
      → entry_words ws nodes (output_entry at) table
      ≡ output_words n (record { port = name_at ws at; node = copied_operand newest (operand_of n (get_or ws (at + 4) 0)) })
  unfolding entry_words output_words
  shown-words ws at l =
      ap₂ (λ (xs : List ℕ) (x : ℕ). xs ++ (x ∷ []))
      (tab-ext (entry_word ws nodes (output_entry at) table) (λ i. get_or ws (at + i) 0) 4
      (λ i k. entry_kept ws nodes (output_entry at) table i (inl k))
      ∙ sym (name_words-name_at ws at))
      (entry-mapped ws nodes (output_entry at) table 4 (omega arith) (omega arith)
      ∙ mapped-operand (get_or ws (at + 4) 0) (inl l))

-- ---- the table

-- At first constant 0 stands for each gate.
pub stands-none : (nodes : Nodes) (entry : List ℕ) (count : ℕ) → count ≡ nodes.gates
    → Stands nodes (placed (replicate nodes.gates 65534) entry) (replicate count (constant false))
unfolding node_word
stands-none nodes entry count e j l =
    get_or-append (replicate nodes.gates 65534) (drop (length (replicate {A = ℕ} nodes.gates 65534)) entry) 0 j
    (rw (length-replicate {A = ℕ} nodes.gates 65534) l)
    ∙ get_or-replicate {A = ℕ} nodes.gates j 65534 0 l
    ∙ sym (ap (node_word nodes.inputs) (get_or-replicate count j (constant false) (constant false) (rw e l)))

-- A copy is made of gate j.
pub stands_set : (nodes : Nodes) (table : List ℕ) (newest : List Operand) (j t : ℕ) → j < length table
    → j < length newest → Stands nodes table newest
    → Stands nodes (set table j (nodes.inputs + t)) (set newest j (gate t))
unfolding node_word
stands_set nodes table newest j t l k stands i h = ⊎_elim same other (eq-or-ne i j)
  where
    same : i ≡ j → get_or (set table j (nodes.inputs + t)) i 0
        ≡ node_word nodes.inputs (get_or (set newest j (gate t)) i (constant false))
    same e =
        rw (e, get_or-set_same table j (nodes.inputs + t) 0 l, get_or-set_same newest j (gate t) (constant false) k) refl

    other : (i ≡ j → ⊥) → get_or (set table j (nodes.inputs + t)) i 0
        ≡ node_word nodes.inputs (get_or (set newest j (gate t)) i (constant false))
    other ne =
        rw (get_or-set_other table j i (nodes.inputs + t) 0 ne, get_or-set_other newest j i (gate t) (constant false) ne)
        (stands i h)
