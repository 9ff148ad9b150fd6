-- The lines of the written text of `netlist`, piece by piece, and the whole of it. Cited by `write`. Assumes nothing.
use Prim.Native.Nat.{ℕ, zero, suc, ◌+◌, ◌*◌, ◌/◌, ◌<◌}
use mathlib.Core.Path.{◌≡◌, refl, sym, ap, ◌∙◌}
use mathlib.Core.Bool.{Bool, true, false, cond, false≢true}
use mathlib.Core.List.{List, [], ◌∷◌, ◌++◌, map, map-append, append_assoc, append-nil}
use native.Mathlib.Omega.{arith}
use lib.ListN.{get_or}
use lib.Dec.{eqb}
use Rattle.prelude.specs.Lists.{ascii, keep, tab, up_to}
use Rattle.prelude.proofs.Tab.{map-tab}
use Rattle.prelude.proofs.Lists.{keep_append}
use Rattle.netlist.specs.Values.{val}
use Rattle.netlist.specs.Assignments.{bit, fixes}
use Rattle.netlist.specs.Netlist.{Operand, input, gate, constant, Block}
use Rattle.netlist.specs.StoredBlock.{name_size, never_size, gate_size, output_size, inputs_at, nevers_at, gates_at, outputs_at}
use Rattle.netlist.specs.StoredBlock.{name_at, never_at, operand_of, gate_at}
use Rattle.netlist.specs.StoredBlock.{output_at, is_node, decode, is_well_formed, is_malformed}
use Rattle.netlist.specs.Syntax.{apply, value_text, pair_text, print_term, print_terms, print_input, print_pair, print_never}
use Rattle.netlist.specs.Syntax.{print_gate, print_output, print_lines}
use Rattle.netlist.specs.Syntax.{print, OutputLine}
use Rattle.netlist.specs.Writing.{node_name_of, term_of, terms_of, flat_line, pairs_of, flat_tree, written_text}
use Rattle.theory_grammar.proofs.Masks.{bit_below}
use Rattle.theory_grammar.proofs.WritingNevers.{pair_at}
use Rattle.theory_grammar.proofs.Shorter.{print_term-append}
use Rattle.theory_encoding.proofs.Decoded.{decode-input_count, decode-input, decode-gate, decode-gate_count}
use Rattle.theory_encoding.proofs.Decoded.{decode-output, decode-output_count, gate_at-kind}
use Rattle.theory_encoding.proofs.Intact.{intact-well_formed}
use Rattle.theory_encoding.proofs.Readers.{whole-intact, well_formed-output}
use Rattle.theory_encoding.proofs.WellFormed.{no_output}
use Rattle.text_pieces.specs.Pieces.{pieces, pair_piece, operand_text}
use Rattle.op_write.specs.Lines.{item_text, expression_text, input_text, fixed_text, never_text, never_line_text}
use Rattle.op_write.specs.Lines.{gate_text}
use Rattle.op_write.specs.Lines.{output_text, block_text}
use Rattle.text_pieces.proofs.Appending.{pieces_more, pieces_none}

-- ---- lines one after the other

lines-append : {A : Type 0} (line : A → List ℕ → List ℕ) (xs ys : List A) (rest : List ℕ)
    → print_lines line (xs ++ ys) rest ≡ print_lines line xs (print_lines line ys rest)
unfolding print_lines
lines-append line [] ys rest = refl
lines-append line (x ∷ xs) ys rest = ap (line x) (lines-append line xs ys rest)

-- lines that are pieces, each by its number
lines-pieces : {A : Type 0} (line : A → List ℕ → List ℕ) (f : ℕ → A) (piece : ℕ → List ℕ) (count : ℕ)
    → ((i : ℕ) → i < count → (rest : List ℕ) → line (f i) rest ≡ piece i ++ rest)
    → (rest : List ℕ) → print_lines line (tab f count) rest ≡ pieces piece count ++ rest
unfolding print_lines
lines-pieces line f piece zero h rest = rw (pieces_none piece) refl
lines-pieces line f piece (suc count) h rest =
    lines-append line (tab f count) (f count ∷ []) rest
    ∙ lines-pieces line f piece count (λ i l. h i (omega arith)) (line (f count) rest)
    ∙ rw (pieces_more piece count, h count (omega arith) rest)
    (sym (append_assoc (pieces piece count) (piece count) rest))

-- lines that are pieces one after the other, where an element that fails a test has no line and an empty piece
kept_pieces : {A : Type 0} (line : A → List ℕ → List ℕ) (f : ℕ → A) (test : ℕ → Bool) (piece : ℕ → List ℕ) (count : ℕ)
    → ((i : ℕ) → i < count → test i ≡ true → (rest : List ℕ) → line (f i) rest ≡ piece i ++ rest)
    → ((i : ℕ) → i < count → test i ≡ false → piece i ≡ [])
    → (rest : List ℕ) → print_lines line (map f (keep test (up_to count))) rest ≡ pieces piece count ++ rest
unfolding print_lines
kept_pieces line f test piece zero h n rest = rw (pieces_none piece) refl
kept_pieces line f test piece (suc count) h n rest =
    rw (keep_append test (up_to count) (count ∷ []), map-append f (keep test (up_to count)) (keep test (count ∷ [])))
    (lines-append line (map f (keep test (up_to count))) (map f (keep test (count ∷ []))) rest
    ∙ kept_pieces line f test piece count (λ i l. h i (omega arith)) (λ i l. n i (omega arith)) _
    ∙ rw (pieces_more piece count, last (test count) refl) (sym (append_assoc (pieces piece count) (piece count) rest)))
  where
    last : (t : Bool) → test count ≡ t → print_lines line (map f (cond t (count ∷ []) [])) rest ≡ piece count ++ rest
    last true e = h count (omega arith) e rest
    last false e = rw (n count (omega arith) e) refl

-- ---- operands

item : Block → Operand → List ℕ → List ℕ
item b o rest = ascii " " ++ print_term (term_of b o) rest

terms-lines : (b : Block) (os : List Operand) (rest : List ℕ)
    → print_terms (terms_of b os) rest ≡ print_lines (item b) os rest
unfolding terms_of print_terms print_lines item
terms-lines b [] rest = refl
terms-lines b (o ∷ os) rest = ap (item b o) (terms-lines b os rest)

module _ (ws : List ℕ) where
  item-piece : (at i : ℕ) (rest : List ℕ)
      → item (decode ws) (operand_of (get_or ws 0 0) (get_or ws (at + 1 + i) 0)) rest ≡ item_text ws at i ++ rest
  unfolding item item_text operand_text
  item-piece at i rest =
      ap (λ (r : List ℕ). ascii " " ++ r)
      (print_term-append (term_of (decode ws) (operand_of (get_or ws 0 0) (get_or ws (at + 1 + i) 0))) [] rest)

  -- the terms of the gate at `at`
  terms-pieces : (at : ℕ) (rest : List ℕ)
      → print_terms (terms_of (decode ws) (gate_at (get_or ws 0 0) ws at).operands) rest
      ≡ pieces (item_text ws at) (get_or ws at 0 / 8) ++ rest
  unfolding gate_at
  terms-pieces at rest =
      terms-lines (decode ws) (gate_at (get_or ws 0 0) ws at).operands rest
      ∙ lines-pieces (item (decode ws)) (λ i. operand_of (get_or ws 0 0) (get_or ws (at + 1 + i) 0)) (item_text ws at)
      (get_or ws at 0 / 8)
      (λ i l r. item-piece at i r) rest

  -- ---- the lines

  input-piece : (i : ℕ) (rest : List ℕ) → print_input (name_at ws (inputs_at + name_size * i)) rest ≡ input_text ws i ++ rest
  unfolding print_input input_text
  input-piece i rest = simp append_assoc refl

  -- the byte of a value is that of its bit
  value-piece : (m i : ℕ) → value_text (val (eqb (bit m i) 1)) ≡ (48 + bit m i) ∷ []
  unfolding value_text
  value-piece m i = go (bit m i) (bit_below m i)
    where
      go : (v : ℕ) → v < 2 → value_text (val (eqb v 1)) ≡ (48 + v) ∷ []
      go zero l = refl
      go (suc zero) l = refl
      go (suc (suc v)) l = absurd (omega arith)

  pair-piece : (at i : ℕ) → i < get_or ws 0 0 → (rest : List ℕ)
      → print_pair (pair_at (decode ws) (never_at ws at) i) rest
      ≡ pair_piece ws (inputs_at + name_size * i) (48 + bit (get_or ws (at + 1) 0) i) ++ rest
  unfolding print_pair pair_text pair_piece never_at
  pair-piece at i l rest = rw (decode-input ws i [] l, value-piece (get_or ws (at + 1) 0) i) (simp append_assoc refl)

  never-piece : (at : ℕ) (rest : List ℕ)
      → print_never (pairs_of (decode ws) (never_at ws at)) rest ≡ never_text ws at ++ rest
  unfolding print_never pairs_of never_text fixed_text fixes never_at
  never-piece at rest =
      rw (decode-input_count ws)
      (ap (λ (r : List ℕ). ascii "(never" ++ r)
      (kept_pieces print_pair (pair_at (decode ws) (never_at ws at)) (fixes (never_at ws at))
      (fixed_text ws (get_or ws at 0) (get_or ws (at + 1) 0)) (get_or ws 0 0)
      (λ i l t r. rw t (pair-piece at i l r)) (λ i l t. rw t refl) (ascii ")\n" ++ rest))
      ∙ simp append_assoc refl)

  expression-piece : (at : ℕ) (rest : List ℕ)
      → print_term (apply (gate_at (get_or ws 0 0) ws at).kind
      (terms_of (decode ws) (gate_at (get_or ws 0 0) ws at).operands)) rest
      ≡ expression_text ws at ++ rest
  unfolding print_term expression_text
  expression-piece at rest =
      rw (terms-pieces at (ascii ")" ++ rest), gate_at-kind (get_or ws 0 0) ws at) (simp append_assoc refl)

  gate-piece : (j : ℕ) → j < get_or ws 1 0 → (rest : List ℕ)
      → print_gate (flat_line (decode ws) j) rest ≡ gate_text ws (gates_at (get_or ws 0 0) (get_or ws 3 0)) j ++ rest
  unfolding print_gate flat_line gate_text
  gate-piece j l rest =
      rw (
        decode-gate ws j l,
        expression-piece (gates_at (get_or ws 0 0) (get_or ws 3 0) + gate_size * j)
            (ascii ")\n" ++ rest),
      ) (simp append_assoc refl)

-- an output shows no constant
shown-term : (b : Block) (o : Operand) → is_node b o ≡ true → node_name_of b o ≡ print_term (term_of b o) []
unfolding is_node term_of print_term
shown-term b (input i) h = sym (append-nil (node_name_of b (input i)))
shown-term b (gate j) h = sym (append-nil (node_name_of b (gate j)))
shown-term b (constant c) h = absurd (false≢true h)

-- output o, the outputs' words standing from `at` on
output_line : List ℕ → ℕ → ℕ → OutputLine
output_line ws at o =
    record {
      port = (output_at (get_or ws 0 0) ws (at + output_size * o)).port;
      shown = node_name_of (decode ws) (output_at (get_or ws 0 0) ws (at + output_size * o)).node;
    }

output-piece : (ws : List ℕ) (at o : ℕ)
    → is_node (decode ws) (output_at (get_or ws 0 0) ws (at + output_size * o)).node ≡ true
    → (rest : List ℕ) → print_output (output_line ws at o) rest ≡ output_text ws at o ++ rest
unfolding print_output output_line output_text output_at operand_text
output-piece ws at o h rest =
    rw (shown-term (decode ws) (operand_of (get_or ws 0 0) (get_or ws (at + output_size * o + name_size) 0)) h)
    (simp append_assoc refl)

decoded-nevers : (ws : List ℕ) → (decode ws).nevers
    ≡ tab (λ i. never_at ws (nevers_at (get_or ws 0 0) + never_size * i)) (get_or ws 3 0)
unfolding decode
decoded-nevers ws = refl

-- The pieces are the written text.
module _ (ws : List ℕ) (whole : is_malformed ws ≡ false) where
  pub decoded-well : is_well_formed (decode ws) ≡ true
  decoded-well = intact-well_formed ws (whole-intact ws whole)

  shown-node : (o : ℕ) → o < get_or ws 2 0
      → is_node (decode ws) (output_at (get_or ws 0 0) ws
      (outputs_at (get_or ws 0 0) (get_or ws 3 0) (get_or ws 1 0) + output_size * o)).node ≡ true
  shown-node o l =
      rw (decode-output ws o no_output l) at (well_formed-output (decode ws) decoded-well o no_output
      (rw (decode-output_count ws) l))

  outputs-pieces : (rest : List ℕ) → print_lines print_output (flat_tree (decode ws)).outputs rest
      ≡ pieces (output_text ws (outputs_at (get_or ws 0 0) (get_or ws 3 0) (get_or ws 1 0))) (get_or ws 2 0) ++ rest
  unfolding flat_tree decode output_line
  outputs-pieces rest =
      let at = outputs_at (get_or ws 0 0) (get_or ws 3 0) (get_or ws 1 0) in
      rw map-tab
      (lines-pieces print_output (output_line ws at) (output_text ws at) (get_or ws 2 0)
      (λ o l. output-piece ws at o (shown-node o l)) rest)

  gates-pieces : (rest : List ℕ) → print_lines print_gate (flat_tree (decode ws)).gates rest
      ≡ pieces (gate_text ws (gates_at (get_or ws 0 0) (get_or ws 3 0))) (get_or ws 1 0) ++ rest
  unfolding flat_tree
  gates-pieces rest =
      rw (decode-gate_count ws)
      (lines-pieces print_gate (flat_line (decode ws)) (gate_text ws (gates_at (get_or ws 0 0) (get_or ws 3 0))) (get_or ws 1 0)
      (gate-piece ws) rest)

  nevers-pieces : (rest : List ℕ)
      → print_lines print_never (flat_tree (decode ws)).nevers rest
      ≡ pieces (never_line_text ws (nevers_at (get_or ws 0 0))) (get_or ws 3 0) ++ rest
  unfolding flat_tree never_line_text
  nevers-pieces rest =
      let at = nevers_at (get_or ws 0 0) in
      ap (λ ls. print_lines print_never ls rest)
      (ap (map (pairs_of (decode ws))) (decoded-nevers ws)
      ∙ map-tab (pairs_of (decode ws)) (λ i. never_at ws (at + never_size * i)) (get_or ws 3 0))
      ∙ (lines-pieces print_never (λ i. pairs_of (decode ws) (never_at ws (at + never_size * i))) (never_line_text ws at)
      (get_or ws 3 0)
      (λ i l r. never-piece ws (at + never_size * i) r) rest)

  inputs-pieces : (rest : List ℕ) → print_lines print_input (flat_tree (decode ws)).inputs rest
      ≡ pieces (input_text ws) (get_or ws 0 0) ++ rest
  unfolding flat_tree decode
  inputs-pieces rest =
      lines-pieces print_input (λ i. name_at ws (inputs_at + name_size * i)) (input_text ws) (get_or ws 0 0)
      (λ i l r. input-piece ws i r) rest

  pub written-pieces : written_text (decode ws) ≡ block_text ws
  unfolding written_text print block_text
  written-pieces = rw (inputs-pieces, nevers-pieces, gates-pieces, outputs-pieces, append-nil) refl
