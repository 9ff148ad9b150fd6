-- The print of a legal tree is read back, line by line, with any bound that is at least the number of lines.
-- Assumes nothing.
--   parse-complete: the print of a legal tree parses to that tree
--   print-injective: two legal trees with one print are one
use Prim.Native.Nat.{ℕ, zero, suc, ◌+◌, ◌-◌, ◌≤◌}
use mathlib.Core.Path.{◌≡◌, refl, ◌∙◌}
use mathlib.Core.Bool.{true, false, ◌&&◌, and-eq-true_iff}
use mathlib.Core.List.{List, [], ◌∷◌, ◌++◌}
use native.Mathlib.Omega.{arith}
use lib.ListN.{length}
use Rattle.prelude.specs.Lists.{ascii, is, all}
use Rattle.netlist.specs.Limits.{max_depth}
use Rattle.netlist.specs.Netlist.{Name}
use Rattle.netlist.specs.Names.{is_letter, is_digit, is_underscore, is_name_byte, is_name_start, is_plain_name, is_node_name}
use Rattle.netlist.specs.Syntax.{apply, GateLine, OutputLine, Pair, Tree, print_term, print_input, print_pair, print_never}
use Rattle.netlist.specs.Syntax.{print_gate, print_output, print_lines, print, is_legal_term, is_legal_never, is_legal_gate}
use Rattle.netlist.specs.Syntax.{is_legal_output, is_legal_tree}
use Rattle.netlist.specs.Parse.{Reader, got, pure, if_next, name_reader, expr_reader, term_reader, never_pairs, add_input}
use Rattle.netlist.specs.Parse.{add_never, add_gate, add_output, input_line, never_line, gate_line, output_line, at_end, line}
use Rattle.netlist.specs.Parse.{outputs_reader, gates_reader, nevers_reader, text_reader, parse}
use Rattle.theory_grammar.proofs.Equations.{if_next-true, if_next-false, expect-back, bind-got}
use Rattle.theory_grammar.proofs.ListFacts.{and3}
use Rattle.theory_grammar.proofs.Lengths.{line_count, line_count-length}
use Rattle.theory_grammar.proofs.CompleteTerms.{name_reader-back, expr-back}
use Rattle.theory_grammar.proofs.Pairs.{never_pairs-back}

module _ (others otherwise : Reader Tree) (rest : List ℕ) (t : Tree) (e : others rest ≡ got t []) where
  input_line-back : (x : Name) → is_plain_name x ≡ true
      → input_line others otherwise (ascii "in " ++ (x ++ (ascii ")\n" ++ rest))) ≡ got (add_input x t) []
  unfolding input_line is_plain_name pure is_name_byte is_letter is_digit is_underscore
  input_line-back x h =
      if_next-true _ _ _ _ _ refl ∙ expect-back (ascii "n ") _ _
      ∙ bind-got (name_reader is_letter) _ _ x _ (name_reader-back is_letter x _ h refl)
      ∙ expect-back (ascii ")\n") _ _ ∙ bind-got others _ _ t _ e

  never_line-back : (ps : List Pair) → is_legal_never ps ≡ true
      → never_line others otherwise (ascii "never" ++ print_lines print_pair ps (ascii ")\n" ++ rest))
      ≡ got (add_never ps t) []
  unfolding never_line pure
  never_line-back ps h =
      if_next-true _ _ _ _ _ refl ∙ expect-back (ascii "ever") _ _
      ∙ bind-got never_pairs _ _ ps _ (never_pairs-back ps (ascii "\n" ++ rest) h)
      ∙ expect-back (ascii "\n") _ _ ∙ bind-got others _ _ t _ e

  output_line-back : (o : OutputLine) → is_legal_output o ≡ true
      → output_line others otherwise (ascii "out " ++ (o.port ++ (ascii " " ++ (o.shown ++ (ascii ")\n" ++ rest)))))
      ≡ got (add_output o t) []
  unfolding output_line is_legal_output is_plain_name is_node_name pure is_name_byte is_letter is_digit is_underscore
  output_line-back o h =
      let f = (and-eq-true_iff (is_plain_name o.port) (is_node_name o.shown)).0 h in
      if_next-true _ _ _ _ _ refl ∙ expect-back (ascii "ut ") _ _
      ∙ bind-got (name_reader is_letter) _ _ o.port _ (name_reader-back is_letter o.port _ f.0 refl)
      ∙ expect-back (ascii " ") _ _
      ∙ bind-got (name_reader is_name_start) _ _ o.shown _ (name_reader-back is_name_start o.shown _ f.1 refl)
      ∙ expect-back (ascii ")\n") _ _ ∙ bind-got others _ _ t _ e

  gate_line-back : (g : GateLine) → is_legal_gate g ≡ true
      → gate_line others otherwise
      (ascii "gate " ++ (g.name ++ (ascii " " ++ print_term (apply g.kind g.terms) (ascii ")\n" ++ rest))))
      ≡ got (add_gate g t) []
  unfolding gate_line is_legal_gate print_term is_node_name pure is_name_byte is_letter is_digit is_underscore
  gate_line-back g h =
      let f = (and-eq-true_iff (is_node_name g.name) (is_legal_term (apply g.kind g.terms) max_depth)).0 h in
      if_next-true _ _ _ _ _ refl ∙ expect-back (ascii "ate ") _ _
      ∙ bind-got (name_reader is_name_start) _ _ g.name _ (name_reader-back is_name_start g.name _ f.0 refl)
      ∙ expect-back (ascii " (") _ _
      ∙ bind-got (expr_reader (term_reader (max_depth - 1)) _) _ _ g _
      (expr-back (max_depth - 1) _ g.kind g.terms _ f.1)
      ∙ expect-back (ascii ")\n") _ _ ∙ bind-got others _ _ t _ e

line-back : (behind : Reader Tree) (s : List ℕ) → line behind (ascii "(" ++ s) ≡ behind s
unfolding line
line-back behind s = if_next-true _ _ _ _ _ refl

-- a line of another sort
gate_line-skip : (others otherwise : Reader Tree) (s : List ℕ)
    → gate_line others otherwise (ascii "o" ++ s) ≡ otherwise (ascii "o" ++ s)
unfolding gate_line
gate_line-skip others otherwise s = if_next-false _ _ _ _ _ refl

never_line-skip : (others otherwise : Reader Tree) (c : ℕ) (s : List ℕ) → is "n" c ≡ false
    → never_line others otherwise (c ∷ s) ≡ otherwise (c ∷ s)
unfolding never_line
never_line-skip others otherwise c s h = if_next-false _ _ _ _ _ h

input_line-skip : (others otherwise : Reader Tree) (c : ℕ) (s : List ℕ) → is "i" c ≡ false
    → input_line others otherwise (c ∷ s) ≡ otherwise (c ∷ s)
unfolding input_line
input_line-skip others otherwise c s h = if_next-false _ _ _ _ _ h

outputs-back : (os : List OutputLine) (n : ℕ) → all is_legal_output os ≡ true → length os ≤ n
    → outputs_reader n (print_lines print_output os [])
    ≡ got (record { inputs = []; nevers = []; gates = []; outputs = os }) []
unfolding outputs_reader print_lines print_output at_end line if_next add_output
outputs-back [] zero h le = refl
outputs-back [] (suc n) h le = refl
outputs-back (o ∷ os) zero h le = absurd (omega arith)
outputs-back (o ∷ os) (suc n) h le =
    let f = (and-eq-true_iff (is_legal_output o) (all is_legal_output os)).0 h in
    line-back _ _ ∙ output_line-back (λ r. outputs_reader n r) _ _ _ (outputs-back os n f.1 (omega arith)) o f.0

gates-back : (gs : List GateLine) (os : List OutputLine) (n : ℕ) → all is_legal_gate gs ≡ true
    → all is_legal_output os ≡ true
    → length gs + length os ≤ n
    → gates_reader n (print_lines print_gate gs (print_lines print_output os []))
    ≡ got (record { inputs = []; nevers = []; gates = gs; outputs = os }) []
unfolding gates_reader print_lines print_output print_gate at_end line if_next add_output add_gate
gates-back [] [] zero g h le = refl
gates-back [] [] (suc n) g h le = refl
gates-back [] (o ∷ os) zero g h le = absurd (omega arith)
gates-back [] (o ∷ os) (suc n) g h le =
    let f = (and-eq-true_iff (is_legal_output o) (all is_legal_output os)).0 h in
    line-back _ _ ∙ gate_line-skip _ _ _
    ∙ output_line-back (λ r. outputs_reader n r) _ _ _ (outputs-back os n f.1 (omega arith)) o f.0
gates-back (g ∷ gs) os zero k h le = absurd (omega arith)
gates-back (g ∷ gs) os (suc n) k h le =
    let f = (and-eq-true_iff (is_legal_gate g) (all is_legal_gate gs)).0 k in
    line-back _ _ ∙ gate_line-back (λ r. gates_reader n r) _ _ _ (gates-back gs os n f.1 h (omega arith)) g f.0

nevers-back : (ns : List (List Pair)) (gs : List GateLine) (os : List OutputLine) (n : ℕ)
    → all is_legal_never ns ≡ true → all is_legal_gate gs ≡ true → all is_legal_output os ≡ true
    → length ns + length gs + length os ≤ n
    → nevers_reader n (print_lines print_never ns (print_lines print_gate gs (print_lines print_output os []))) ≡ got
    (record { inputs = []; nevers = ns; gates = gs; outputs = os }) []
unfolding nevers_reader print_lines print_output print_gate print_never at_end line if_next add_output add_gate add_never
nevers-back [] [] [] zero r g h le = refl
nevers-back [] [] [] (suc n) r g h le = refl
nevers-back [] [] (o ∷ os) zero r g h le = absurd (omega arith)
nevers-back [] [] (o ∷ os) (suc n) r g h le =
    let f = (and-eq-true_iff (is_legal_output o) (all is_legal_output os)).0 h in
    line-back _ _ ∙ never_line-skip _ _ _ _ refl ∙ gate_line-skip _ _ _
    ∙ output_line-back (λ r. outputs_reader n r) _ _ _ (outputs-back os n f.1 (omega arith)) o f.0
nevers-back [] (g ∷ gs) os zero r k h le = absurd (omega arith)
nevers-back [] (g ∷ gs) os (suc n) r k h le =
    let f = (and-eq-true_iff (is_legal_gate g) (all is_legal_gate gs)).0 k in
    line-back _ _ ∙ never_line-skip _ _ _ _ refl
    ∙ gate_line-back (λ r. gates_reader n r) _ _ _ (gates-back gs os n f.1 h (omega arith)) g f.0
nevers-back (ps ∷ ns) gs os zero r k h le = absurd (omega arith)
nevers-back (ps ∷ ns) gs os (suc n) r k h le =
    let f = (and-eq-true_iff (is_legal_never ps) (all is_legal_never ns)).0 r in
    line-back _ _
    ∙ never_line-back (λ r. nevers_reader n r) _ _ _ (nevers-back ns gs os n f.1 k h (omega arith)) ps f.0

text-back : (xs : List Name) (ns : List (List Pair)) (gs : List GateLine) (os : List OutputLine) (n : ℕ)
    → all is_plain_name xs ≡ true → all is_legal_never ns ≡ true → all is_legal_gate gs ≡ true → all is_legal_output os ≡ true
    → length xs + length ns + length gs + length os ≤ n
    → text_reader n (print_lines print_input xs
    (print_lines print_never ns (print_lines print_gate gs (print_lines print_output os [])))) ≡ got
    (record { inputs = xs; nevers = ns; gates = gs; outputs = os }) []
unfolding text_reader print_lines print_output print_gate print_never print_input at_end line if_next add_output add_gate add_never
    add_input
text-back [] [] [] [] zero i r g h le = refl
text-back [] [] [] [] (suc n) i r g h le = refl
text-back [] [] [] (o ∷ os) zero i r g h le = absurd (omega arith)
text-back [] [] [] (o ∷ os) (suc n) i r g h le =
    let f = (and-eq-true_iff (is_legal_output o) (all is_legal_output os)).0 h in
    line-back _ _ ∙ input_line-skip _ _ _ _ refl ∙ never_line-skip _ _ _ _ refl ∙ gate_line-skip _ _ _
    ∙ output_line-back (λ r. outputs_reader n r) _ _ _ (outputs-back os n f.1 (omega arith)) o f.0
text-back [] [] (g ∷ gs) os zero i r k h le = absurd (omega arith)
text-back [] [] (g ∷ gs) os (suc n) i r k h le =
    let f = (and-eq-true_iff (is_legal_gate g) (all is_legal_gate gs)).0 k in
    line-back _ _ ∙ input_line-skip _ _ _ _ refl ∙ never_line-skip _ _ _ _ refl
    ∙ gate_line-back (λ r. gates_reader n r) _ _ _ (gates-back gs os n f.1 h (omega arith)) g f.0
text-back [] (ps ∷ ns) gs os zero i r k h le = absurd (omega arith)
text-back [] (ps ∷ ns) gs os (suc n) i r k h le =
    let f = (and-eq-true_iff (is_legal_never ps) (all is_legal_never ns)).0 r in
    line-back _ _ ∙ input_line-skip _ _ _ _ refl
    ∙ never_line-back (λ r. nevers_reader n r) _ _ _ (nevers-back ns gs os n f.1 k h (omega arith)) ps f.0
text-back (x ∷ xs) ns gs os zero i r k h le = absurd (omega arith)
text-back (x ∷ xs) ns gs os (suc n) i r k h le =
    let f = (and-eq-true_iff (is_plain_name x) (all is_plain_name xs)).0 i in
    line-back _ _
    ∙ input_line-back (λ r. text_reader n r) _ _ _ (text-back xs ns gs os n f.1 r k h (omega arith)) x f.0

pub text_reader-complete : (t : Tree) (n : ℕ) → is_legal_tree t ≡ true → line_count t ≤ n
    → text_reader n (print t) ≡ got t []
unfolding print is_legal_tree line_count
text_reader-complete t n h le =
    let f = and3 (all is_plain_name t.inputs && all is_legal_never t.nevers) (all is_legal_gate t.gates)
    (all is_legal_output t.outputs) h in
    let g = (and-eq-true_iff (all is_plain_name t.inputs) (all is_legal_never t.nevers)).0 f.0 in
    text-back t.inputs t.nevers t.gates t.outputs n g.0 g.1 f.1 f.2 le

-- Completeness: the print of a legal tree parses, and gives that tree back.
pub parse-complete : (t : Tree) → is_legal_tree t ≡ true → parse (print t) ≡ got t []
unfolding parse
parse-complete t h = text_reader-complete t (length (print t)) h (line_count-length t)

-- Two legal trees with one print are one.
pub print-injective : (t u : Tree) → is_legal_tree t ≡ true → is_legal_tree u ≡ true → print t ≡ print u → t ≡ u
print-injective t u h g e = let a = parse-complete t h in let b = parse-complete u g in cc
