-- What is read is legal and printed back, for lines and the whole text: printed before the rest, it is the text.
-- Assumes nothing.
--   TreeRead: what is read of a text: all of it, a legal tree, printed back
--   parse-sound: the main law, of every text
use Prim.Native.Nat.{ℕ, zero, suc, ◌-◌}
use mathlib.Core.Path.{◌≡◌, refl}
use mathlib.Core.Bool.{true}
use mathlib.Core.List.{List, [], ◌∷◌, ◌++◌}
use lib.ListN.{length}
use Rattle.prelude.specs.Lists.{ascii}
use Rattle.netlist.specs.Limits.{max_depth}
use Rattle.netlist.specs.Netlist.{Name}
use Rattle.netlist.specs.Names.{is_letter, is_name_start, is_plain_name, is_node_name}
use Rattle.netlist.specs.Syntax.{GateLine, OutputLine, Pair, Tree, print_term, print_input, print_never, print_gate}
use Rattle.netlist.specs.Syntax.{print_output, print_lines, print, is_legal_gate, is_legal_output, is_legal_tree}
use Rattle.netlist.specs.Parse.{Reader, got, name_reader, expr_reader, term_reader, never_pairs, add_input, add_never}
use Rattle.netlist.specs.Parse.{add_gate, add_output, input_line, never_line, gate_line, output_line, at_end, line}
use Rattle.netlist.specs.Parse.{outputs_reader, gates_reader, nevers_reader, text_reader, parse}
use Rattle.theory_grammar.proofs.Readings.{Gives, gives-got, gives-stuck, gives-pure, gives-stop, gives-is}
use Rattle.theory_grammar.proofs.Readings.{gives-expect, gives-bind}
use Rattle.theory_grammar.proofs.Pairs.{never_pairs-sound}
use Rattle.theory_grammar.proofs.SoundTerms.{name_reader-sound, letter-name_byte, name_start-name_byte}
use Rattle.theory_grammar.proofs.SoundTerms.{expr_reader-sound, term_reader-sound, ExprRead}

-- trees that lack some sorts of lines
abbrev pub NoInputs : Tree → Type 0
NoInputs t = t.inputs ≡ []

abbrev pub NoNevers : Tree → Type 0
NoNevers t = (t.inputs ≡ []) × (t.nevers ≡ [])

abbrev pub OnlyOutputs : Tree → Type 0
OnlyOutputs t = (t.inputs ≡ []) × (t.nevers ≡ []) × (t.gates ≡ [])

abbrev pub AnyTree : Tree → Type 0
AnyTree t = Unit {0}

pub record TreeRead (Lacks : Tree → Type 0) (s : List ℕ) (t : Tree) (rest : List ℕ) : Type 0 where
  pub ended : rest ≡ []
  pub legal : is_legal_tree t ≡ true
  pub printed : print t ≡ s
  pub lacks : Lacks t

record GateRead (x : Name) (s : List ℕ) (g : GateLine) (rest : List ℕ) : Type 0 where
  named : g.name ≡ x
  expr : ExprRead (max_depth - 1) s g.kind g.terms rest

module _ (Lacks : Tree → Type 0) where
  input_line-sound : (others otherwise : Reader Tree) (s : List ℕ) → ((x : Name) (t : Tree) → Lacks (add_input x t))
      → ((t : List ℕ) → Gives (TreeRead AnyTree t) (others t))
      → Gives (TreeRead Lacks (ascii "(" ++ s)) (otherwise s)
      → Gives (TreeRead Lacks (ascii "(" ++ s)) (input_line others otherwise s)
  unfolding input_line add_input print print_lines print_input is_legal_tree is_plain_name
  input_line-sound others otherwise s weaken rec =
      gives-is _ _ _ s λ t e. gives-expect (ascii "n ") _ t λ u f. gives-bind (name_reader is_letter) _ u
      (name_reader-sound is_letter letter-name_byte u)
      λ x v g. gives-expect (ascii ")\n") _ v λ w h. gives-bind others _ w (rec w)
      λ y z p. gives-pure (add_input x y) z
      (record { ended = p.ended; legal = rw g.legal p.legal; printed = cc; lacks = weaken x y })

  never_line-sound : (others otherwise : Reader Tree) (s : List ℕ)
      → ((ps : List Pair) (t : Tree) → NoInputs t → Lacks (add_never ps t))
      → ((t : List ℕ) → Gives (TreeRead NoInputs t) (others t))
      → Gives (TreeRead Lacks (ascii "(" ++ s)) (otherwise s)
      → Gives (TreeRead Lacks (ascii "(" ++ s)) (never_line others otherwise s)
  unfolding never_line add_never print print_lines print_never is_legal_tree
  never_line-sound others otherwise s weaken rec =
      gives-is _ _ _ s λ t e. gives-expect (ascii "ever") _ t λ u f. gives-bind never_pairs _ u (never_pairs-sound u)
      λ ps v g. gives-expect (ascii "\n") _ v λ w h. gives-bind others _ w (rec w)
      λ y z p. gives-pure (add_never ps y) z (record {
        ended = p.ended;
        legal = rw g.legal p.legal;
        printed =
            let gates = print_lines print_gate y.gates (print_lines print_output y.outputs []) in
            let r : print y ≡ print_lines print_never y.nevers gates = rw p.lacks in
            rw p.lacks (cc);
        lacks = weaken ps y p.lacks;
      })

  gate_line-sound : (others otherwise : Reader Tree) (s : List ℕ)
      → ((g : GateLine) (t : Tree) → NoNevers t → Lacks (add_gate g t))
      → ((t : List ℕ) → Gives (TreeRead NoNevers t) (others t))
      → Gives (TreeRead Lacks (ascii "(" ++ s)) (otherwise s)
      → Gives (TreeRead Lacks (ascii "(" ++ s)) (gate_line others otherwise s)
  unfolding gate_line add_gate print print_lines print_gate print_term is_legal_tree is_legal_gate is_node_name
  gate_line-sound others otherwise s weaken rec =
      gives-is _ _ _ s λ t e. gives-expect (ascii "ate ") _ t λ u f. gives-bind (name_reader is_name_start) _ u
      (name_reader-sound is_name_start name_start-name_byte u)
      λ x v g. gives-expect (ascii " (") _ v λ w h. gives-bind {P = GateRead x w}
      (expr_reader (term_reader (max_depth - 1)) _) _ w
      (expr_reader-sound (term_reader (max_depth - 1)) (max_depth - 1) (term_reader-sound (max_depth - 1)) _ w
      λ k ts rest m. record { named = refl; expr = m })
      λ y z p. gives-expect (ascii ")\n") _ z λ a i. gives-bind others _ a (rec a)
      λ b c j. gives-pure (add_gate y b) c (record {
        ended = j.ended;
        legal = rw (p.named, g.legal, p.expr.legal) j.legal;
        printed = let r : print b ≡ print_lines print_gate b.gates
            (print_lines print_output b.outputs []) = rw (j.lacks.0, j.lacks.1) in
            rw (j.lacks.0, j.lacks.1, p.named) (cc);
        lacks = weaken y b j.lacks;
      })

  output_line-sound : (others otherwise : Reader Tree) (s : List ℕ)
      → ((o : OutputLine) (t : Tree) → OnlyOutputs t → Lacks (add_output o t))
      → ((t : List ℕ) → Gives (TreeRead OnlyOutputs t) (others t))
      → Gives (TreeRead Lacks (ascii "(" ++ s)) (otherwise s)
      → Gives (TreeRead Lacks (ascii "(" ++ s)) (output_line others otherwise s)
  unfolding output_line add_output print print_lines print_output is_legal_tree is_legal_output is_plain_name is_node_name
  output_line-sound others otherwise s weaken rec =
      gives-is _ _ _ s λ t e. gives-expect (ascii "ut ") _ t λ u f. gives-bind (name_reader is_letter) _ u
      (name_reader-sound is_letter letter-name_byte u)
      λ x v g. gives-expect (ascii " ") _ v λ w h. gives-bind (name_reader is_name_start) _ w
      (name_reader-sound is_name_start name_start-name_byte w)
      λ y z p. gives-expect (ascii ")\n") _ z λ a i. gives-bind others _ a (rec a)
      λ b c j. gives-pure (add_output (record { port = x; shown = y }) b) c (record {
        ended = j.ended;
        legal = rw (g.legal, p.legal) j.legal;
        printed =
            let r : print b ≡ print_lines print_output b.outputs [] = rw (j.lacks.0, j.lacks.1, j.lacks.2) in
            rw (j.lacks.0, j.lacks.1, j.lacks.2) (cc);
        lacks = weaken (record { port = x; shown = y }) b j.lacks;
      })

  at_end-sound : (s : List ℕ) → Lacks (record { inputs = []; nevers = []; gates = []; outputs = [] })
      → Gives (TreeRead Lacks s) (at_end s)
  unfolding at_end print print_lines is_legal_tree
  at_end-sound [] l = gives-got _ [] (record { ended = refl; legal = refl; printed = refl; lacks = l })
  at_end-sound (c ∷ s) l = gives-stuck _

  line-sound : (behind : Reader Tree) (s : List ℕ)
      → Lacks (record { inputs = []; nevers = []; gates = []; outputs = [] })
      → ((t : List ℕ) → Gives (TreeRead Lacks (ascii "(" ++ t)) (behind t))
      → Gives (TreeRead Lacks s) (line behind s)
  unfolding line
  line-sound behind s l rec = gives-is _ _ _ s (λ t e. rw e at (rec t)) (at_end-sound s l)

outputs_reader-sound : (n : ℕ) (s : List ℕ) → Gives (TreeRead OnlyOutputs s) (outputs_reader n s)
unfolding outputs_reader add_output
outputs_reader-sound zero s = at_end-sound OnlyOutputs s (refl, refl, refl)
outputs_reader-sound (suc n) s =
    line-sound OnlyOutputs _ s (refl, refl, refl)
    λ t. output_line-sound OnlyOutputs _ _ t (λ o x l. l) (outputs_reader-sound n) (gives-stop t)

gates_reader-sound : (n : ℕ) (s : List ℕ) → Gives (TreeRead NoNevers s) (gates_reader n s)
unfolding gates_reader add_gate add_output
gates_reader-sound zero s = at_end-sound NoNevers s (refl, refl)
gates_reader-sound (suc n) s =
    line-sound NoNevers _ s (refl, refl)
    λ t. gate_line-sound NoNevers _ _ t (λ g x l. l) (gates_reader-sound n)
    (output_line-sound NoNevers _ _ t (λ o x l. (l.0, l.1)) (outputs_reader-sound n) (gives-stop t))

nevers_reader-sound : (n : ℕ) (s : List ℕ) → Gives (TreeRead NoInputs s) (nevers_reader n s)
unfolding nevers_reader add_never add_gate add_output
nevers_reader-sound zero s = at_end-sound NoInputs s refl
nevers_reader-sound (suc n) s =
    line-sound NoInputs _ s refl
    λ t. never_line-sound NoInputs _ _ t (λ ps x l. l) (nevers_reader-sound n)
    (gate_line-sound NoInputs _ _ t (λ g x l. l.0) (gates_reader-sound n)
    (output_line-sound NoInputs _ _ t (λ o x l. l.0) (outputs_reader-sound n) (gives-stop t)))

-- For every bound on the lines: what is read is the whole text, and it is the print of a legal tree.
pub text_reader-sound : (n : ℕ) (s : List ℕ) → Gives (TreeRead AnyTree s) (text_reader n s)
unfolding text_reader
text_reader-sound zero s = at_end-sound AnyTree s tt
text_reader-sound (suc n) s =
    line-sound AnyTree _ s tt
    λ t. input_line-sound AnyTree _ _ t (λ x y. tt) (text_reader-sound n)
    (never_line-sound AnyTree _ _ t (λ ps x l. tt) (nevers_reader-sound n)
    (gate_line-sound AnyTree _ _ t (λ g x l. tt) (gates_reader-sound n)
    (output_line-sound AnyTree _ _ t (λ o x l. tt) (outputs_reader-sound n) (gives-stop t))))

-- Soundness: a text that parses is the print of a legal tree, and nothing is left of it.
pub parse-sound : (text : List ℕ) (t : Tree) (rest : List ℕ) → parse text ≡ got t rest
    → (rest ≡ []) × (is_legal_tree t ≡ true) × (print t ≡ text)
unfolding parse
parse-sound text t rest e =
    let h = (text_reader-sound (length text) text).holds t rest e in (h.ended, h.legal, h.printed)
