-- The print of a tree as lines: each of its lines ends with its only LF, begins with its letter, and has one bracket
-- that is no gate's. Assumes nothing.
use Prim.Native.Nat.{ℕ, zero, suc, ◌+◌, ◌*◌, ◌≤◌}
use mathlib.Core.Path.{◌≡◌, refl, sym, ap, ◌∙◌}
use mathlib.Core.Bool.{Bool, true, false, ◌&&◌, false≢true}
use mathlib.Core.List.{List, [], ◌∷◌, ◌++◌, map, append_assoc, append-nil}
use native.Mathlib.Nat.{mul-zero, mul-suc, mul-add}
use native.Mathlib.Omega.{arith}
use lib.ListN.{drop}
use borrow.Author.Tests.{ne_eqb}
use Rattle.prelude.specs.Lists.{ascii, all, joined}
use Rattle.prelude.proofs.Quantifiers.{all_append}
use Rattle.prelude.proofs.Tests.{and_left, and_right, and_intro}
use Rattle.prelude.proofs.Lists.{joined-append}
use Rattle.netlist.specs.Kinds.{is_kind, arity_fits, keyword, signature_of}
use Rattle.netlist.specs.Netlist.{Name}
use Rattle.netlist.specs.Names.{is_legal_name, is_letter, is_digit, is_underscore, is_name_byte, is_plain_name, is_node_name}
use Rattle.netlist.specs.Syntax.{Term, Terms, name, literal, apply, nil, cons, GateLine, OutputLine, Tree, print_term}
use Rattle.netlist.specs.Syntax.{print_terms, print_input, print_never, print_gate}
use Rattle.netlist.specs.Syntax.{print_output, print_lines, print, term_count, is_legal_term, is_legal_terms, is_legal_never}
use Rattle.netlist.specs.Syntax.{is_legal_gate, is_legal_output, is_legal_tree}
use Rattle.netlist.specs.Reading.{gates_in, gates_inside, line_gates, gate_lines_at}
use Rattle.theory_encoding.proofs.Gates.{by_kind}
use Rattle.theory_grammar.proofs.Shorter.{print_term-append}
use Rattle.theory_grammar.proofs.Places.{print_input-split, print_gate-split, print_output-split, gates-at}
use Rattle.text_lines.specs.Lines.{times}
use Rattle.text_lines.specs.Trees.{input_line_text, gate_line_text, output_line_text, input_lines, lines_behind, TextOf}
use Rattle.text_lines.specs.Trees.{is_line}
use Rattle.text_lines.proofs.Starts.{times-append}
use Rattle.text_lines.proofs.JoinedLines.{line-append}
use Rattle.theory_encoding.proofs.Names.{name_byte-range}
use Rattle.text_names.proofs.LegalNames.{name-bytes}

-- ---- names and keywords have no bracket and no LF

pub times-name-bytes : (b : ℕ) → b ≤ 47 → (s : List ℕ) → all is_name_byte s ≡ true → times b s ≡ 0
times-name-bytes b l [] h = refl
times-name-bytes b l (x ∷ xs) h =
    let r = name_byte-range x (and_left (is_name_byte x) (all is_name_byte xs) h) in
    let n : x ≡ b → ⊥ = λ e. omega (arith, r.0) in
    let t = times-name-bytes b l xs (and_right (is_name_byte x) (all is_name_byte xs) h) in
    rw (ne_eqb x b n) (omega arith)

pub times-name : (b : ℕ) → b ≤ 47 → (start : ℕ → Bool) (s : Name) → is_legal_name start s ≡ true → times b s ≡ 0
times-name b l start s h = times-name-bytes b l s (name-bytes start s h)

pub keyword-bytes : (k : ℕ) → is_kind k ≡ true → all is_name_byte (keyword k) ≡ true
unfolding keyword is_name_byte is_letter is_digit is_underscore signature_of
keyword-bytes = by_kind (λ k. all is_name_byte (keyword k) ≡ true) refl refl refl refl refl refl refl

-- ---- brackets and LFs of a term

pub kind-legal : (k : ℕ) (ts : Terms) (d : ℕ) → is_legal_term (apply k ts) (suc d) ≡ true
    → (is_kind k ≡ true) × (is_legal_terms ts d ≡ true)
unfolding is_legal_term
kind-legal k ts d h =
    let ab : is_kind k && arity_fits k (term_count ts) ≡ true =
    and_left (is_kind k && arity_fits k (term_count ts)) (is_legal_terms ts d) h in (
      and_left (is_kind k) (arity_fits k (term_count ts)) ab,
      and_right (is_kind k && arity_fits k (term_count ts)) (is_legal_terms ts d) h,
    )

-- of a byte b that is a bracket, or no byte of a term: each gate has one bracket
module _ (b : ℕ) (low : b ≤ 47) (closing : times b (ascii ")") ≡ 0) (space : times b (ascii " ") ≡ 0) where
  digits : (times b (ascii "0") ≡ 0) × (times b (ascii "1") ≡ 0)
  unfolding is_name_byte is_letter is_digit is_underscore
  digits = (times-name-bytes b low (ascii "0") refl, times-name-bytes b low (ascii "1") refl)

  mutual
    unfolding print_term print_terms gates_in gates_inside is_legal_term is_legal_terms is_node_name

    pub times-term : (t : Term) (d : ℕ) (rest : List ℕ) → is_legal_term t d ≡ true
        → times b (print_term t rest) ≡ times b (ascii "(") * gates_in t + times b rest
    times-term (name s) d rest h = rw (times-append b s rest, times-name b low _ s h, mul-zero) refl
    times-term (literal true) d rest h = rw mul-zero (omega (arith, digits.1))
    times-term (literal false) d rest h = rw mul-zero (omega (arith, digits.0))
    times-term (apply k ts) zero rest h = absurd (false≢true h)
    times-term (apply k ts) (suc d) rest h =
        let l = kind-legal k ts d h in
        let e = times-terms ts d (ascii ")" ++ rest) l.1 in
        let f = times-append b (keyword k) (print_terms ts (ascii ")" ++ rest)) in
        let g = times-name-bytes b low (keyword k) (keyword-bytes k l.0) in
        rw (mul-suc (times b (ascii "(")) (gates_inside ts)) (omega (arith, closing))

    pub times-terms : (ts : Terms) (d : ℕ) (rest : List ℕ) → is_legal_terms ts d ≡ true
        → times b (print_terms ts rest) ≡ times b (ascii "(") * gates_inside ts + times b rest
    times-terms nil d rest h = rw mul-zero (omega arith)
    times-terms (cons t ts) d rest h =
        let x = times-term t d (print_terms ts rest) (and_left (is_legal_term t d) (is_legal_terms ts d) h) in
        let y = times-terms ts d rest (and_right (is_legal_term t d) (is_legal_terms ts d) h) in
        rw (mul-add (times b (ascii "(")) (gates_in t) (gates_inside ts)) (omega (arith, space))

-- a term has a bracket for each gate, and no LF
pub opens-term : (t : Term) (d : ℕ) (rest : List ℕ) → is_legal_term t d ≡ true
    → times 40 (print_term t rest) ≡ gates_in t + times 40 rest
opens-term t d rest h = let e = times-term 40 (omega arith) refl refl t d rest h in omega arith

pub ends-term : (t : Term) (d : ℕ) (rest : List ℕ) → is_legal_term t d ≡ true
    → times 10 (print_term t rest) ≡ times 10 rest
ends-term t d rest h = let e = times-term 10 (omega arith) refl refl t d rest h in omega arith

-- ---- the lines of a tree

-- a line of a tree: an LF at its end alone, and so many gates
pub record TreeLine (l : List ℕ) (gates : ℕ) : Type 0 where
  pub line : is_line l ≡ true
  pub opens : times 40 l ≡ suc gates

times-literal : (b : ℕ) (xs ys : List ℕ) → times b xs ≡ 0 → times b (xs ++ ys) ≡ times b ys
times-literal b xs ys h = rw (times-append b xs ys, h) (omega arith)

pub input-line : (s : Name) → is_plain_name s ≡ true → TreeLine (input_line_text s) 0
unfolding input_line_text print_input is_plain_name
input-line s h =
    record {
      line = line-append s (ascii ")\n") (times-name 10 (omega arith) _ s h);
      opens = rw (times-literal 40 s (ascii ")\n") (times-name 40 (omega arith) _ s h));
    }

pub output-line : (o : OutputLine) → is_legal_output o ≡ true → TreeLine (output_line_text o) 0
unfolding output_line_text print_output is_legal_output is_plain_name is_node_name
output-line o h =
    let p = and_left (is_plain_name o.port) (is_node_name o.shown) h in
    let q = and_right (is_plain_name o.port) (is_node_name o.shown) h in
    record {
      line =
          line-append o.port _ (times-name 10 (omega arith) _ o.port p)
          ∙ line-append o.shown (ascii ")\n") (times-name 10 (omega arith) _ o.shown q);
      opens =
          rw (
            times-literal 40 o.port (ascii " " ++ (o.shown ++ ascii ")\n"))
                (times-name 40 (omega arith) _ o.port p),
            times-literal 40 o.shown (ascii ")\n") (times-name 40 (omega arith) _ o.shown q),
          );
    }

pub gate-line : (g : GateLine) → is_legal_gate g ≡ true → TreeLine (gate_line_text g) (line_gates g)
unfolding gate_line_text print_gate is_legal_gate is_node_name line_gates gates_in
gate-line g h =
    let p = and_left (is_node_name g.name) (is_legal_term (apply g.kind g.terms) 8) h in
    let q = and_right (is_node_name g.name) (is_legal_term (apply g.kind g.terms) 8) h in
    let term = apply g.kind g.terms in
    let z : times 10 (print_term term (ascii ")")) ≡ 0 = ends-term term 8 (ascii ")") q in
    record {
      line =
          line-append g.name _ (times-name 10 (omega arith) _ g.name p)
          ∙ ap is_line (print_term-append term (ascii ")") (ascii "\n"))
          ∙ line-append (print_term term (ascii ")")) (ascii "\n") z;
      opens =
          rw (
            times-literal 40 g.name (ascii " " ++ print_term term (ascii ")\n"))
                (times-name 40 (omega arith) _ g.name p),
            opens-term term 8 (ascii ")\n") q,
          )
          (omega arith);
    }

-- ---- the whole text

pub printed-lines : {A : Type 0} (line : A → List ℕ → List ℕ)
    → ((x : A) (rest : List ℕ) → line x rest ≡ line x [] ++ rest) → (xs : List A) (rest : List ℕ)
    → print_lines line xs rest ≡ joined (map (λ x. line x []) xs) ++ rest
unfolding print_lines
printed-lines line h [] rest = refl
printed-lines line h (x ∷ xs) rest = h x (print_lines line xs rest) ∙ rw (printed-lines line h xs rest, append_assoc)

pub all_lines : {A : Type 0} (legal : A → Bool) (line : A → List ℕ)
    → ((x : A) → legal x ≡ true → is_line (line x) ≡ true) → (xs : List A) → all legal xs ≡ true
    → all is_line (map line xs) ≡ true
all_lines legal line f [] h = refl
all_lines legal line f (x ∷ xs) h =
    and_intro (is_line (line x)) (all is_line (map line xs)) (f x (and_left (legal x) (all legal xs) h))
    (all_lines legal line f xs (and_right (legal x) (all legal xs) h))

-- the parts of a legal tree are legal
pub record Parts (t : Tree) : Type 0 where
  pub inputs : all is_plain_name t.inputs ≡ true
  pub nevers : all is_legal_never t.nevers ≡ true
  pub gates : all is_legal_gate t.gates ≡ true
  pub outputs : all is_legal_output t.outputs ≡ true

pub legal-parts : (t : Tree) → is_legal_tree t ≡ true → Parts t
unfolding is_legal_tree
legal-parts t h =
    let front = all is_plain_name t.inputs && all is_legal_never t.nevers in
    let a = and_left (front && all is_legal_gate t.gates) (all is_legal_output t.outputs) h in
    let b = and_left front (all is_legal_gate t.gates) a in
    record {
      inputs = and_left (all is_plain_name t.inputs) (all is_legal_never t.nevers) b;
      nevers = and_right (all is_plain_name t.inputs) (all is_legal_never t.nevers) b;
      gates = and_right front (all is_legal_gate t.gates) a;
      outputs = and_right (front && all is_legal_gate t.gates) (all is_legal_output t.outputs) h;
    }

-- the lines of a legal tree are lines, and stand at their places
module _ {t : Tree} {text : List ℕ} (is : TextOf t text) where
  abbrev pub nevers_text : List ℕ
  nevers_text =
      print_lines print_never t.nevers (print_lines print_gate t.gates (print_lines print_output t.outputs []))

  pub input-lines : all is_line (input_lines t) ≡ true
  unfolding input_lines
  input-lines =
      all_lines is_plain_name input_line_text (λ x l. (input-line x l).line) t.inputs (legal-parts t is.legal).inputs

  pub inputs-stand : drop 0 text ≡ joined (input_lines t) ++ nevers_text
  unfolding print input_lines input_line_text
  inputs-stand = sym is.printed ∙ printed-lines print_input print_input-split t.inputs nevers_text

  pub behind-lines : all is_line (lines_behind t) ≡ true
  unfolding lines_behind
  behind-lines =
      let p = legal-parts t is.legal in
      all_append is_line (map gate_line_text t.gates) (map output_line_text t.outputs)
      ∙ and_intro (all is_line (map gate_line_text t.gates)) (all is_line (map output_line_text t.outputs))
      (all_lines is_legal_gate gate_line_text (λ x l. (gate-line x l).line) t.gates p.gates)
      (all_lines is_legal_output output_line_text (λ x l. (output-line x l).line) t.outputs p.outputs)

  pub behind-stand : drop (gate_lines_at t) text ≡ joined (lines_behind t)
  unfolding lines_behind gate_line_text output_line_text
  behind-stand =
      rw (← is.printed, gates-at t)
      (printed-lines print_gate print_gate-split t.gates _
      ∙ rw (printed-lines print_output print_output-split t.outputs [], append-nil)
      (sym (joined-append (map gate_line_text t.gates) (map output_line_text t.outputs))))
