-- What is read line by line from the print of a tree, lines of one form after those of another: the letters and the
-- declared names. Assumes nothing.
use Prim.Native.Nat.{ℕ, ◌+◌}
use mathlib.Core.Path.{◌≡◌, refl, sym, ap, ◌∙◌}
use mathlib.Core.Bool.{Bool, true}
use mathlib.Core.List.{List, [], ◌∷◌, ◌++◌, map, append_assoc, append-nil}
use native.Mathlib.Nat.{add-zero, add_assoc}
use lib.ListN.{length, get_or, drop}
use Rattle.prelude.specs.Lists.{ascii, all, joined, sum, tab}
use Rattle.prelude.proofs.Tests.{and_left, and_right}
use Rattle.netlist.specs.Netlist.{Name}
use Rattle.netlist.specs.Names.{is_letter, is_digit, is_underscore, is_name_byte, is_plain_name, is_node_name}
use Rattle.netlist.specs.Syntax.{GateLine, OutputLine, Tree, apply, print_input, print_gate, print_output, is_legal_term}
use Rattle.netlist.specs.Syntax.{is_legal_gate, is_legal_output}
use Rattle.netlist.specs.Reading.{Mention, mentions, lines_length, gate_lines_at, output_lines_at}
use Rattle.netlist.specs.Reading.{input_mention, gate_mention, port_mention}
use Rattle.netlist.specs.Reading.{declared_ports}
use Rattle.text_lines.specs.Lines.{line_offset, name_offset}
use Rattle.text_names.specs.Packed.{name_front}
use Rattle.text_lines.specs.Trees.{input_line_text, gate_line_text, output_line_text, input_lines, lines_behind, TextOf}
use Rattle.text_names.proofs.LegalNames.{front-legal}
use Rattle.text_lines.proofs.JoinedLines.{each_line, tab-lines}
use Rattle.text_lines.proofs.TreeLines.{legal-parts, nevers_text, input-lines, inputs-stand, behind-lines, behind-stand}

-- ---- lines of one form

abbrev walk : {A B : Type 0} → (A → List ℕ) → (A → ℕ → B) → List A → ℕ → List B
walk line m [] at = []
walk line m (x ∷ xs) at = m x at ∷ walk line m xs (at + length (line x))

abbrev size : {A : Type 0} → (A → List ℕ) → List A → ℕ
size line xs = sum (map (λ x. length (line x)) xs)

module _ {A B : Type 0} (line : A → List ℕ) (legal : A → Bool) (f : ℕ → List ℕ → B) (m : A → ℕ → B)
    (agrees : (x : A) (at : ℕ) (rest : List ℕ) → legal x ≡ true → f at (line x ++ rest) ≡ m x at) where
  each-walk : (rest : List ℕ) (xs : List A) (ys : List (List ℕ)) (at : ℕ) → all legal xs ≡ true
      → each_line f rest at (map line xs ++ ys) ≡ walk line m xs at ++ each_line f rest (at + size line xs) ys
  each-walk rest [] ys at h = rw add-zero
  each-walk rest (x ∷ xs) ys at h =
      rw (
        agrees x at (joined (map line xs ++ ys) ++ rest) (and_left (legal x) (all legal xs) h),
        each-walk rest xs ys (at + length (line x)) (and_right (legal x) (all legal xs) h),
        add_assoc,
      )

-- ---- the declared names

-- the name that the line at `at` declares, of which `rest` is the beginning
unfoldable pub mention_at : ℕ → List ℕ → Mention
mention_at at rest =
    record { name = name_front 8 (drop (name_offset (get_or rest 1 0)) rest); place = at + name_offset (get_or rest 1 0) }

declares : (s : Name) (place : ℕ) (x : Name) → x ≡ s
    → ◌≡◌ {A = Mention} (record { name = x; place = place }) (record { name = s; place = place })
declares s place x e = rw e

module _ (at : ℕ) (rest : List ℕ) where
  input-mention : (s : Name) → is_plain_name s ≡ true
      → mention_at at (input_line_text s ++ rest) ≡ record { name = s; place = at + length (ascii "(in ") }
  unfolding mention_at input_line_text print_input name_offset is_plain_name is_name_byte is_letter is_digit is_underscore
  input-mention s h = declares s _ _ (rw append_assoc (front-legal _ s 41 (10 ∷ rest) h refl))

  gate-mention : (g : GateLine) → is_legal_gate g ≡ true
      → mention_at at (gate_line_text g ++ rest) ≡ record { name = g.name; place = at + length (ascii "(gate ") }
  unfolding mention_at gate_line_text print_gate name_offset is_legal_gate is_node_name is_name_byte is_letter is_digit is_underscore
  gate-mention g h =
      declares g.name _ _
      (rw append_assoc (front-legal _ g.name 32 _
      (and_left (is_node_name g.name) (is_legal_term (apply g.kind g.terms) 8) h) refl))

  port-mention : (o : OutputLine) → is_legal_output o ≡ true
      → mention_at at (output_line_text o ++ rest) ≡ record { name = o.port; place = at + length (ascii "(out ") }
  unfolding mention_at output_line_text print_output name_offset is_legal_output is_plain_name is_name_byte is_letter is_digit
      is_underscore
  port-mention o h =
      declares o.port _ _ (rw append_assoc
      (front-legal _ o.port 32 _ (and_left (is_plain_name o.port) (is_node_name o.shown) h) refl))

mentions-walk : {A : Type 0} (printed : A → List ℕ → List ℕ) (in_line : A → ℕ → List Mention) (m : A → ℕ → Mention)
    → ((x : A) (at : ℕ) → in_line x at ≡ m x at ∷ [])
    → (xs : List A) (at : ℕ) → mentions printed in_line xs at ≡ walk (λ x. printed x []) m xs at
unfolding mentions
mentions-walk printed in_line m e [] at = refl
mentions-walk printed in_line m e (x ∷ xs) at =
    rw (e x at, mentions-walk printed in_line m e xs (at + length (printed x [])))

-- the declaration in line i of those from a place on
abbrev pub mention_in : List ℕ → ℕ → ℕ → Mention
mention_in text from i = mention_at (line_offset text from i) (drop (line_offset text from i) text)

-- what each form of line declares
abbrev input_declares : Name → ℕ → Mention
input_declares s at = record { name = s; place = at + length (ascii "(in ") }

abbrev gate_declares : GateLine → ℕ → Mention
gate_declares g at = record { name = g.name; place = at + length (ascii "(gate ") }

abbrev output_declares : OutputLine → ℕ → Mention
output_declares o at = record { name = o.port; place = at + length (ascii "(out ") }

-- line by line the text has the tree's declarations, those of inputs first, and behind never lines those of gates and
-- outputs
module _ {t : Tree} {text : List ℕ} (is : TextOf t text) where
  pub input-walk : tab (mention_in text 0) (length (input_lines t)) ≡ mentions print_input input_mention t.inputs 0
  unfolding input_lines input_line_text input_mention
  input-walk =
      let rest = nevers_text is in
      let w =
      each-walk input_line_text is_plain_name mention_at input_declares (λ x at rest l. input-mention at rest x l) rest
      t.inputs [] 0
      (legal-parts t is.legal).inputs in
      tab-lines mention_at rest text 0 (input_lines t) (input-lines is) (inputs-stand is)
      ∙ ap (λ (ls : List (List ℕ)). each_line mention_at rest 0 ls) (sym (append-nil (map input_line_text t.inputs)))
      ∙ w ∙ append-nil (walk input_line_text input_declares t.inputs 0)
      ∙ sym (mentions-walk print_input input_mention input_declares (λ x at. refl) t.inputs 0)

  pub behind-walk : tab (mention_in text (gate_lines_at t)) (length (lines_behind t))
      ≡ mentions print_gate gate_mention t.gates (gate_lines_at t) ++ declared_ports t
  unfolding lines_behind declared_ports output_lines_at lines_length gate_line_text output_line_text gate_mention port_mention
  behind-walk =
      let p = legal-parts t is.legal in
      let at = gate_lines_at t in
      let to = at + size gate_line_text t.gates in
      let os = map output_line_text t.outputs in
      let g =
      each-walk gate_line_text is_legal_gate mention_at gate_declares (λ x at rest l. gate-mention at rest x l) [] t.gates
      os at p.gates in
      let o =
      each-walk output_line_text is_legal_output mention_at output_declares (λ x at rest l. port-mention at rest x l) []
      t.outputs [] to p.outputs in
      let o' : each_line mention_at [] to os ≡ walk output_line_text output_declares t.outputs to =
      ap (λ (ls : List (List ℕ)). each_line mention_at [] to ls) (sym (append-nil os)) ∙ o
      ∙ append-nil (walk output_line_text output_declares t.outputs to) in
      tab-lines mention_at [] text at (lines_behind t) (behind-lines is)
      (behind-stand is ∙ sym (append-nil (joined (lines_behind t))))
      ∙ g ∙ ap (λ (r : List Mention). walk gate_line_text gate_declares t.gates at ++ r) o'
      ∙ sym
      (rw (
        mentions-walk print_gate gate_mention gate_declares (λ x at. refl) t.gates at,
        mentions-walk print_output port_mention output_declares (λ x at. refl) t.outputs to,
      ))
