-- Where the lines of a printed tree stand: a print is its own bytes and then what follows, and lengths add up. Cited
-- for places of names. Assumes nothing.
--   print_input-split, print_pair-split, print_never-split, print_gate-split, print_output-split, lines_split:
--     a print is its own bytes and then what follows
--   term-measure, lines-measure, print-measure: lengths add up
--   nevers-at, gates-at, outputs-at, lines-drop: where the lines stand
use Prim.Native.Nat.{ℕ, ◌+◌}
use mathlib.Core.Path.{◌≡◌, refl, sym, ap, ◌∙◌}
use mathlib.Core.List.{List, [], ◌∷◌, ◌++◌, append_assoc}
use native.Mathlib.Omega.{arith}
use lib.ListN.{length, drop, length-append}
use lib.Seq.{drop_at, drop-drop}
use Rattle.prelude.specs.Lists.{ascii}
use Rattle.netlist.specs.Netlist.{Name}
use Rattle.netlist.specs.Syntax.{Term, apply, GateLine, OutputLine, Pair, Tree, print_term, print_input, pair_text}
use Rattle.netlist.specs.Syntax.{print_pair, print_never, print_gate, print_output, print_lines, print}
use Rattle.netlist.specs.Reading.{lines_length, never_lines_at, gate_lines_at, output_lines_at}
use Rattle.theory_grammar.proofs.Shorter.{print_term-append}

pub term-measure : (t : Term) (rest : List ℕ) → length (print_term t rest) ≡ length (print_term t []) + length rest
term-measure t rest = ap length (print_term-append t [] rest) ∙ length-append (print_term t []) rest

pub print_input-split : (x : Name) (rest : List ℕ) → print_input x rest ≡ print_input x [] ++ rest
unfolding print_input
print_input-split x rest = simp append_assoc

pub print_pair-split : (p : Pair) (rest : List ℕ) → print_pair p rest ≡ print_pair p [] ++ rest
unfolding print_pair pair_text
print_pair-split p rest = simp append_assoc

pub print_output-split : (o : OutputLine) (rest : List ℕ) → print_output o rest ≡ print_output o [] ++ rest
unfolding print_output
print_output-split o rest = simp append_assoc

pub print_gate-split : (g : GateLine) (rest : List ℕ) → print_gate g rest ≡ print_gate g [] ++ rest
unfolding print_gate
print_gate-split g rest = rw (print_term-append (apply g.kind g.terms) (ascii ")\n") rest) (simp append_assoc)

module _ {A : Type 0} (line : A → List ℕ → List ℕ)
    (split : (x : A) (rest : List ℕ) → line x rest ≡ line x [] ++ rest) where
  pub lines_split : (xs : List A) (rest : List ℕ) → print_lines line xs rest ≡ print_lines line xs [] ++ rest
  unfolding print_lines
  lines_split [] rest = refl
  lines_split (x ∷ xs) rest =
      split x (print_lines line xs rest) ∙ ap (λ s. line x [] ++ s) (lines_split xs rest)
      ∙ sym (append_assoc (line x []) (print_lines line xs []) rest)
      ∙ ap (λ s. s ++ rest) (sym (split x (print_lines line xs [])))

  pub lines-measure : (xs : List A) (rest : List ℕ)
      → length (print_lines line xs rest) ≡ lines_length line xs + length rest
  unfolding print_lines lines_length
  lines-measure [] rest = omega arith
  lines-measure (x ∷ xs) rest =
      let h = ap length (split x (print_lines line xs rest)) in
      let g = length-append (line x []) (print_lines line xs rest) in
      let r = lines-measure xs rest in
      omega arith

  pub lines-drop : (xs : List A) (rest : List ℕ) → drop (lines_length line xs) (print_lines line xs rest) ≡ rest
  lines-drop xs rest =
      let l : length (print_lines line xs []) ≡ lines_length line xs = omega (arith, lines-measure xs []) in
      rw (lines_split xs rest) (drop_at (print_lines line xs []) rest (lines_length line xs) l)

pub print_never-split : (ps : List Pair) (rest : List ℕ) → print_never ps rest ≡ print_never ps [] ++ rest
unfolding print_never
print_never-split ps rest =
    rw (
      lines_split print_pair print_pair-split ps (ascii ")\n" ++ rest),
      lines_split print_pair print_pair-split ps (ascii ")\n"),
    ) (simp append_assoc)

-- The lines of a printed tree, sort by sort, and its end stand where the definitions say.
module _ (t : Tree) where
  pub nevers-at : drop (never_lines_at t) (print t)
      ≡ print_lines print_never t.nevers (print_lines print_gate t.gates (print_lines print_output t.outputs []))
  unfolding print never_lines_at
  nevers-at = lines-drop print_input print_input-split t.inputs _

  pub gates-at : drop (gate_lines_at t) (print t)
      ≡ print_lines print_gate t.gates (print_lines print_output t.outputs [])
  unfolding gate_lines_at
  gates-at = sym (drop-drop (lines_length print_never t.nevers) (never_lines_at t) (print t))
      ∙ rw nevers-at (lines-drop print_never print_never-split t.nevers _)

  pub outputs-at : drop (output_lines_at t) (print t) ≡ print_lines print_output t.outputs []
  unfolding output_lines_at
  outputs-at = sym (drop-drop (lines_length print_gate t.gates) (gate_lines_at t) (print t))
      ∙ rw gates-at (lines-drop print_gate print_gate-split t.gates _)

  pub print-measure : length (print t) ≡ output_lines_at t + lines_length print_output t.outputs
  unfolding print output_lines_at gate_lines_at never_lines_at
  print-measure =
      let outputs = print_lines print_output t.outputs [] in
      let gates = print_lines print_gate t.gates outputs in
      let a = lines-measure print_output print_output-split t.outputs [] in
      let b = lines-measure print_gate print_gate-split t.gates outputs in
      let c = lines-measure print_never print_never-split t.nevers gates in
      let d = lines-measure print_input print_input-split t.inputs (print_lines print_never t.nevers gates) in
      omega arith
