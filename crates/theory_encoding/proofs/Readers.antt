-- What holds of a block that is not malformed: of its words at a gate and at an output, and of the gates that its gates
-- read. The parts themselves, for every list of words, are in Decoded. Cited by the crates that work on stored blocks.
-- Assumes nothing.
--   GateWhole, OperandWord: what is known of a gate's and an operand's words
--   whole_parts: the limits, the length and the rules of words that are not malformed
--   whole-gate, whole-node: a gate's and an output's words
--   well_formed-gate, well_formed-output: the rules of a gate and an output of a well-formed block
--   whole-reads: a gate that is read is there
use mathlib.Core.Path.{◌≡◌, sym, ◌∙◌}
use mathlib.Core.Logic.{◌⊎◌, inl, inr, ⊎_elim}
use mathlib.Core.Bool.{true, false, ◌||◌}
use mathlib.Core.List.{List}
use Prim.Native.Nat.{ℕ, ◌+◌, ◌*◌, ◌/◌, ◌%◌, ◌≤◌, ◌<◌}
use lib.ListN.{get_or}
use lib.Dec.{ltb, eqb}
use borrow.Author.Tests.{ltb-true, eqb-true, not-false}
use Rattle.prelude.proofs.Tests.{or_cases}
use Rattle.prelude.proofs.Quantifiers.{all-at}
use Rattle.theory_reach.proofs.Inside.{well_formed-inside}
use Rattle.netlist.specs.Kinds.{is_kind, arity_fits}
use Rattle.netlist.specs.Netlist.{Output, Block, gate_count, output_count, gate_of}
use Rattle.netlist.specs.Groups.{reads}
use Rattle.netlist.specs.StoredBlock.{name_size, gate_size, output_size, operand_words, gates_at, outputs_at, is_node}
use Rattle.netlist.specs.StoredBlock.{gate_fits, decode, is_well_formed, is_malformed}
use Rattle.theory_encoding.specs.Rules.{node_rule, operand_rule, gate_rule, intact}
use Rattle.theory_encoding.proofs.Gates.{Unused, kind-small, arity-four, arity-not, arity-others, gate_rule-kind}
use Rattle.theory_encoding.proofs.Gates.{gate_rule-arity, gate_rule-operand, gate_rule-unused}
use Rattle.theory_encoding.proofs.WellFormed.{no_gate, well_formed-parts}
use Rattle.theory_encoding.proofs.Intact.{Intact, intact-parts, intact-torn}
use Rattle.theory_encoding.proofs.RoundTrip.{whole-well_formed}

-- ---- the words of a gate that meets the rule

-- a node's number, or a constant's
abbrev pub OperandWord : ℕ → ℕ → Type 0
OperandWord nodes w = (w < nodes) ⊎ ((w ≡ 65534) ⊎ (w ≡ 65535))

-- the gate whose first word is at `at`, of a block with so many nodes
pub record GateWhole (ws : List ℕ) (nodes at : ℕ) : Type 0 where
  pub known : is_kind (get_or ws at 0 % 8) ≡ true
  pub kind : get_or ws at 0 % 8 ≤ 6
  pub arity : arity_fits (get_or ws at 0 % 8) (get_or ws at 0 / 8) ≡ true
  pub count : get_or ws at 0 / 8 ≤ operand_words
  pub not_count : get_or ws at 0 % 8 ≡ 0 → get_or ws at 0 / 8 ≡ 1
  pub other_count : 1 ≤ get_or ws at 0 % 8 → 2 ≤ get_or ws at 0 / 8
  pub operands : (i : ℕ) → i < get_or ws at 0 / 8 → OperandWord nodes (get_or ws (at + 1 + i) 0)
  pub unused : Unused ws at

pub operand_rule-cases : (nodes w : ℕ) → operand_rule nodes w ≡ true → OperandWord nodes w
unfolding operand_rule node_rule
operand_rule-cases nodes w h =
    ⊎_elim (λ a. ⊎_elim (λ l. inl (ltb-true w nodes l)) (λ e. inr (inl (eqb-true w 65534 e)))
    (or_cases (ltb w nodes) (eqb w 65534) a))
    (λ e. inr (inr (eqb-true w 65535 e)))
    (or_cases (ltb w nodes || eqb w 65534) (eqb w 65535) h)

-- what the rule says of a gate's words
pub gate_rule-parts : (ws : List ℕ) (nodes at : ℕ) → gate_rule ws nodes at ≡ true → GateWhole ws nodes at
gate_rule-parts ws nodes at h =
    record {
      known = gate_rule-kind ws nodes at h;
      kind = kind-small (get_or ws at 0 % 8) (gate_rule-kind ws nodes at h);
      arity = gate_rule-arity ws nodes at h;
      count = arity-four (get_or ws at 0 % 8) (get_or ws at 0 / 8) (gate_rule-arity ws nodes at h);
      not_count = λ e. arity-not (get_or ws at 0 / 8) (rw e at (gate_rule-arity ws nodes at h));
      other_count = λ l. arity-others (get_or ws at 0 % 8) (get_or ws at 0 / 8) (gate_rule-kind ws nodes at h) l
          (gate_rule-arity ws nodes at h);
      operands = λ i l. operand_rule-cases nodes (get_or ws (at + 1 + i) 0) (gate_rule-operand ws nodes at h i l);
      unused = gate_rule-unused ws nodes at h;
    }

-- ---- words that are not malformed

module _ (ws : List ℕ) (whole : is_malformed ws ≡ false) where
  pub whole-intact : intact ws ≡ true
  whole-intact = not-false (intact ws) (sym (intact-torn ws) ∙ whole)

  -- the limits, the length and the rules
  pub whole_parts : Intact ws (get_or ws 0 0) (get_or ws 1 0) (get_or ws 2 0)
  whole_parts = intact-parts ws whole-intact

  -- the words of gate j
  pub whole-gate : (j : ℕ) → j < get_or ws 1 0
      → GateWhole ws (get_or ws 0 0 + get_or ws 1 0) (gates_at (get_or ws 0 0) (get_or ws 3 0) + gate_size * j)
  whole-gate j l = gate_rule-parts ws (get_or ws 0 0 + get_or ws 1 0) (gates_at (get_or ws 0 0) (get_or ws 3 0) + gate_size * j)
      (whole_parts.gates j l)

  -- an output's word is an input's number or a gate's
  pub whole-node : (o : ℕ) → o < get_or ws 2 0
      → get_or ws (outputs_at (get_or ws 0 0) (get_or ws 3 0) (get_or ws 1 0) + output_size * o + name_size) 0 < get_or ws 0 0
      + get_or ws 1 0
  unfolding node_rule
  whole-node o l =
      ltb-true (get_or ws (outputs_at (get_or ws 0 0) (get_or ws 3 0) (get_or ws 1 0) + output_size * o + name_size) 0)
      (get_or ws 0 0 + get_or ws 1 0)
      (whole_parts.nodes o l)

-- ---- well-formed blocks

module _ (b : Block) (h : is_well_formed b ≡ true) where
  -- gate j fits
  pub well_formed-gate : (j : ℕ) → j < gate_count b → gate_fits b (gate_of b j) ≡ true
  well_formed-gate j l = all-at (gate_fits b) b.gates j no_gate (well_formed-parts b h).gates_fit l

  -- output o shows an input or a gate that is there
  pub well_formed-output : (o : ℕ) (d : Output) → o < output_count b → is_node b (get_or b.outputs o d).node ≡ true
  well_formed-output o d l = all-at (λ o. is_node b o.node) b.outputs o d (well_formed-parts b h).nodes_there l

-- a gate that is read is there
pub whole-reads : (ws : List ℕ) → is_malformed ws ≡ false → (i k : ℕ) → reads (decode ws) i k ≡ true
    → k < gate_count (decode ws)
whole-reads ws h = well_formed-inside (decode ws) (whole-well_formed ws h)
