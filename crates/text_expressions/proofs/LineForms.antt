-- Gate lines and output lines: where their names and expressions stand, and what their readers have done. Assumes
-- nothing.
use mathlib.Core.Path.{◌≡◌, refl, sym, ap, ◌∙◌}
use mathlib.Core.Bool.{Bool, true, false}
use mathlib.Core.List.{List, [], ◌∷◌, ◌++◌, append_assoc}
use Prim.Native.Nat.{ℕ, suc, ◌+◌, ◌-◌, ◌*◌, ◌≤◌}
use native.Mathlib.Omega.{arith}
use Rattle.std.specs.declared.option.Option.{Option}
use lib.ListN.{length, take, drop, length-append}
use lib.Seq.{sets, drop_at, drop-drop}
use Rattle.prelude.specs.Lists.{ascii, all}
use Rattle.prelude.proofs.Tests.{and_left, and_right}
use Rattle.prelude.proofs.Elements.{rest-is-drop}
use Rattle.netlist.specs.Limits.{max_gates, max_depth}
use Rattle.netlist.specs.StoredBlock.{name_words, node_word}
use Rattle.netlist.specs.Names.{is_letter, is_digit, is_underscore, is_name_byte, is_name_start, is_legal_name, is_plain_name}
use Rattle.netlist.specs.Names.{is_node_name}
use Rattle.netlist.specs.StoredBlock.{output_words}
use Rattle.netlist.specs.Syntax.{name, apply, GateLine, OutputLine, print_term, print_gate, print_output, is_legal_term}
use Rattle.netlist.specs.Syntax.{is_legal_gate, is_legal_output}
use Rattle.netlist.specs.Reading.{Binding, gates_in, line_gates, operand_mentions, shown_mention, term_mentions, term_node}
use Rattle.netlist.specs.Reading.{term_gates, lookup}
use Rattle.theory_grammar.proofs.Places.{print_gate-split, print_output-split}
use Rattle.text_names.specs.Packed.{packed, name_front}
use Rattle.text_expressions.specs.declared.walk.Found.{Found}
use Rattle.text_expressions.specs.Walk.{Table, TermAt, TermHere, TermDone, TermRead}
use Rattle.text_expressions.specs.Lines.{gate_form, output_form, output_of, LineAt, LineHere, LineRead}
use Rattle.text_expressions.proofs.Lookups.{front-back}
use Rattle.text_names.proofs.LegalNames.{name-bytes}
use Rattle.text_names.proofs.PortNames.{port-words}
use Rattle.text_names.specs.Ports.{port_words}
use Rattle.text_expressions.specs.Leaves.{name_here}
use Rattle.text_expressions.specs.declared.leaves.Leaf.{Leaf}
use Rattle.text_expressions.proofs.Closings.{gates-count, words-length, name_done}
use Rattle.text_expressions.proofs.LineSteps.{Lawful}

pub gate-lawful : Lawful gate_form
unfolding gate_form line_gates gates_in
gate-lawful =
    record {
      split = print_gate-split;
      sized =
          λ n bs g first. words-length n (term_gates (apply g.kind g.terms) bs first)
          ∙ ap (λ k. 5 * k) (gates-count (apply g.kind g.terms) bs first);
    }

pub output-lawful : Lawful output_form
unfolding output_form output_of output_words name_words
output-lawful = record { split = print_output-split; sized = λ n bs o first. refl }

-- ---- a name behind a word, and what follows it

module _ (w x r : List ℕ) (c : ℕ) where
  behind-word : drop (length w) (w ++ (x ++ (c ∷ r))) ≡ x ++ (c ∷ r)
  behind-word = drop_at w (x ++ (c ∷ r)) (length w) refl

  behind-name : (k : ℕ) → k ≡ length w + length x + 1 → drop k (w ++ (x ++ (c ∷ r))) ≡ r
  behind-name k e =
      let z : w ++ (x ++ (c ∷ r)) ≡ (w ++ (x ++ (c ∷ []))) ++ r = simp append_assoc in
      rw z (drop_at (w ++ (x ++ (c ∷ []))) r k
      (omega (arith, length-append w (x ++ (c ∷ [])), length-append x (c ∷ []))))

  whole_length : length (w ++ (x ++ (c ∷ r))) ≡ length w + length x + 1 + length r
  whole_length = omega (arith, length-append w (x ++ (c ∷ r)), length-append x (c ∷ r))

  -- the name that is read there
  name-behind : (start : ℕ → Bool) (j : ℕ) → j ≡ length w → is_legal_name start x ≡ true → is_name_byte c ≡ false
      → name_front 8 (take (length (w ++ (x ++ (c ∷ r))) - j) (drop j (w ++ (x ++ (c ∷ r))))) ≡ x
  name-behind start j e h f =
      rw (e, rest-is-drop (w ++ (x ++ (c ∷ r))) (length w), behind-word) (front-back start x (c ∷ r) h f)

-- ---- gate lines

-- the expression stands behind a name of k bytes; its own bytes behind its bracket
pub record GateParts (g : GateLine) (s rest : List ℕ) (k : ℕ) : Type 0 where
  pub named : k ≡ length g.name
  pub long : 8 + k ≤ length s
  pub measured : length s ≡ 7 + k + suc (length (drop (8 + k) s))
  pub inner : TermAt (apply g.kind g.terms) 8 (ascii ")\n" ++ rest) (40 ∷ drop (8 + k) s)

gate-parts-at : (g : GateLine) (rest : List ℕ) (k : ℕ) → is_legal_gate g ≡ true
    → k ≡ length (name_front 8 (take (length (print_gate g rest) - 6) (drop 6 (print_gate g rest))))
    → GateParts g (print_gate g rest) rest k
unfolding print_gate is_legal_gate is_node_name is_name_byte is_letter is_digit is_underscore print_term
gate-parts-at g rest k h e =
    let o = apply g.kind g.terms in
    let inner = print_term o (ascii ")\n" ++ rest) in
    let a = and_left (is_node_name g.name) (is_legal_term o max_depth) h in
    let b = and_right (is_node_name g.name) (is_legal_term o max_depth) h in
    let f : k ≡ length g.name = e ∙ ap length
    (name-behind (ascii "(gate ") g.name inner 32 is_name_start 6 refl a refl) in
    let m = whole_length (ascii "(gate ") g.name inner 32 in
    let z = behind-name (ascii "(gate ") g.name inner 32 (7 + k) (omega arith) in
    let q : 7 + k + 1 ≡ 8 + k = omega arith in
    let y : drop (8 + k) (print_gate g rest) ≡ drop 1 inner = rw q at
    (sym (drop-drop 1 (7 + k) (print_gate g rest)) ∙ ap (drop 1) z) in
    record {
      named = f;
      long = omega arith;
      measured = rw y (omega arith);
      inner = rw y (record { legal = b; printed = refl; ends = refl });
    }

module _ (s : List ℕ) (k : ℕ) (e : k ≡ length (name_front 8 (take (length s - 6) (drop 6 s)))) where
  pub gate-parts : (g : GateLine) (rest : List ℕ) → LineAt gate_form g rest s → GateParts g s rest k
  unfolding gate_form
  gate-parts g rest w = rw (← w.printed) (gate-parts-at g rest k w.legal (rw w.printed e))

  abbrev pub expression_text : List ℕ
  expression_text = 40 ∷ take (length s - (8 + k)) (drop (8 + k) s)

  module _ (n : ℕ) (names words : List ℕ) (first : ℕ) (gates : List ℕ) where
    -- what the expression's reader may assume
    pub gate-here : LineHere gate_form max_gates s n names words first gates
        → TermHere expression_text n names words first gates
    unfolding gate_form line_gates gates_in
    gate-here p =
        record {
          bindings = p.bindings;
          term = apply p.line.kind p.line.terms;
          depth = 8;
          rest = ascii ")\n" ++ p.rest;
          table = p.table;
          here = rw (rest-is-drop s (8 + k)) (gate-parts p.line p.rest p.here).inner;
          few = p.few;
          inputs = p.inputs;
          room = p.room;
        }

    module _ (seen : Option ℕ) (after : List ℕ) (one : Found)
        (r : TermRead expression_text n names words first seen gates after one) where
      gate-done : (bs : List Binding) (g : GateLine) (rest : List ℕ) (at : ℕ) → Table n bs names words
          → LineAt gate_form g rest s
          → TermDone n bs (apply g.kind g.terms) at (40 ∷ drop (8 + k) s) (ascii ")\n" ++ rest) first seen gates
          after one
      gate-done bs g rest at t w =
          let r' = rw (rest-is-drop s (8 + k)) at r in
          r'.done bs (apply g.kind g.terms) 8 (ascii ")\n" ++ rest) at t (gate-parts g rest w).inner

      pub gate-left : LineHere gate_form max_gates s n names words first gates → 2 ≤ one.left
      gate-left p = let d = (gate-done p.bindings p.line p.rest 0 p.table p.here).left in omega arith

      pub gate-read : LineRead gate_form s n names words first seen gates after
          (record { left = one.left - 2; number = one.gates; unknown = one.unknown })
      unfolding gate_form line_gates gates_in operand_mentions
      gate-read =
          record {
            done = λ bs g rest at t w.
                let c = gate-parts g rest w in
                let d = gate-done bs g rest (at + 6 + length g.name + 1) t w in
                let total : at + 6 + length g.name + 1 + suc (length (drop (8 + k) s)) ≡ at + length s = omega
                (arith, c.named, c.measured) in
                record {
                  left = let h = d.left in omega arith;
                  number = d.gates;
                  unknown = d.unknown ∙ rw total;
                  words = d.words;
                };
          }

-- ---- output lines

pub record OutputParts (o : OutputLine) (s rest : List ℕ) (k : ℕ) : Type 0 where
  pub port : name_front 8 (take (length s - 5) (drop 5 s)) ≡ o.port
  pub named : k ≡ length o.port
  pub long : 6 + k ≤ length s
  pub measured : length s ≡ 6 + k + length (drop (6 + k) s)
  pub inner : drop (6 + k) s ≡ o.shown ++ (ascii ")\n" ++ rest)
  pub legal_port : all is_name_byte o.port ≡ true
  pub legal_shown : is_node_name o.shown ≡ true

output-parts-at : (o : OutputLine) (rest : List ℕ) (k : ℕ) → is_legal_output o ≡ true
    → k ≡ length (name_front 8 (take (length (print_output o rest) - 5) (drop 5 (print_output o rest))))
    → OutputParts o (print_output o rest) rest k
unfolding print_output is_legal_output is_plain_name is_name_byte is_letter is_digit is_underscore
output-parts-at o rest k h e =
    let inner = o.shown ++ (ascii ")\n" ++ rest) in
    let a = and_left (is_plain_name o.port) (is_node_name o.shown) h in
    let f = name-behind (ascii "(out ") o.port inner 32 is_letter 5 refl a refl in
    let g : k ≡ length o.port = e ∙ ap length f in
    let m = whole_length (ascii "(out ") o.port inner 32 in
    let z = behind-name (ascii "(out ") o.port inner 32 (6 + k) (omega arith) in
    record {
      port = f;
      named = g;
      long = omega arith;
      measured = rw z (omega arith);
      inner = z;
      legal_port = name-bytes is_letter o.port a;
      legal_shown = and_right (is_plain_name o.port) (is_node_name o.shown) h;
    }

module _ (s : List ℕ) (k : ℕ) (e : k ≡ length (name_front 8 (take (length s - 5) (drop 5 s)))) where
  pub output-parts : (o : OutputLine) (rest : List ℕ) → LineAt output_form o rest s → OutputParts o s rest k
  unfolding output_form
  output-parts o rest w = rw (← w.printed) (output-parts-at o rest k w.legal (rw w.printed e))

  module _ (n : ℕ) (names words : List ℕ) (first : ℕ) (seen : Option ℕ) (array : List ℕ) (l : Leaf)
      (f : l ≡ name_here (take (length s - (6 + k)) (drop (6 + k) s)) names words seen) where
    shown-done : (bs : List Binding) (o : OutputLine) (rest : List ℕ) (at : ℕ) → Table n bs names words
        → LineAt output_form o rest s
        → TermDone n bs (name o.shown) at (drop (6 + k) s) (ascii ")\n" ++ rest) first seen array array
        (record { left = l.left; word = l.word; gates = first; unknown = l.unknown })
    unfolding is_name_byte is_letter is_digit is_underscore
    shown-done bs o rest at t w =
        let c = output-parts o rest w in
        rw (f, rest-is-drop s (6 + k), c.inner, ← t.packed_names, ← t.node_words)
        (name_done n bs at first seen (ascii ")\n" ++ rest) array o.shown c.legal_shown refl t.legal)

    pub output-left : (bs : List Binding) (o : OutputLine) (rest : List ℕ) → Table n bs names words
        → LineAt output_form o rest s → 2 ≤ l.left
    output-left bs o rest t w = let d = (shown-done bs o rest 0 t w).left in omega arith

    pub output-read : (after : List ℕ) (p : ℕ) → p ≡ packed (name_front 8 (take (length s - 5) (drop 5 s)))
        → after ≡ sets array (5 * first) (port_words p ++ (l.word ∷ []))
        → LineRead output_form s n names words first seen array after
        (record { left = l.left - 2; number = first + 1; unknown = l.unknown })
    unfolding output_form output_of output_words shown_mention term_mentions term_node
    output-read after p g h =
        record {
          done = λ bs o rest at t w.
              let c = output-parts o rest w in
              let d = shown-done bs o rest (at + 5 + length o.port + 1) t w in
              let total : at + 5 + length o.port + 1 + length (drop (6 + k) s) ≡ at + length s = omega
              (arith, c.named, c.measured) in
              let q : port_words p ≡ name_words o.port = ap port_words (g ∙ ap packed c.port) ∙ port-words o.port
              c.legal_port in
              let made : port_words p ++ (l.word ∷ []) ≡ name_words o.port ++
              (node_word n (lookup bs o.shown) ∷ []) = rw (q, d.word) in
              record {
                left = let z = d.left in omega arith;
                number = refl;
                unknown = d.unknown ∙ rw total;
                words = h ∙ ap (sets array (5 * first)) made;
              };
        }
