-- A set line in form has at most max_set_line bytes; so of a longer line its first held_bytes bytes are answered as the
-- whole line. Assumes nothing.
use Prim.Native.Nat.{ℕ, suc, ◌+◌, ◌*◌, ◌-◌, ◌≤◌, ◌<◌}
use mathlib.Core.Path.{◌≡◌, refl, ap}
use mathlib.Core.Bool.{Bool, true, false, and-eq-true_iff}
use mathlib.Core.Logic.{◌⊎◌, inl, inr}
use mathlib.Core.List.{List, [], ◌∷◌, ◌++◌}
use native.Mathlib.Omega.{arith}
use lib.ListN.{length, take, length-append}
use lib.Seq.{take-take, take_all, length-take-le}
use lib.Dec.{leb}
use borrow.Author.Tests.{leb-true}
use Rattle.prelude.specs.Lists.{ascii, all}
use Rattle.prelude.proofs.Tests.{lt-or-le}
use Rattle.netlist.specs.declared.Refusal.TheVariants.{SyntaxError}
use Rattle.netlist.specs.Limits.{max_inputs, max_name}
use Rattle.netlist.specs.Values.{val}
use Rattle.netlist.specs.Netlist.{Block, input_count}
use Rattle.netlist.specs.Names.{is_node_name}
use Rattle.netlist.specs.Syntax.{print_lines}
use Rattle.netlist.specs.Parse.{Parsed, got, stuck}
use Rattle.netlist.specs.Syntax.{Pair, value_text, pair_text, print_pair, is_legal_pair}
use Rattle.netlist.specs.SetLine.{print_set_line, is_legal_set_line, LegalLine, ViableLine, FirstBadInLine}
use Rattle.netlist.specs.SetLine.{set_line_reader}
use Rattle.netlist.specs.Answers.{refused}
use Rattle.netlist.specs.Bench.{line_outcome, parsed_outcome, line_answer}
use Rattle.theory_grammar.proofs.FirstBad.{first-bad-one}
use Rattle.theory_grammar.proofs.WritingLength.{name-short}
use Rattle.theory_grammar.proofs.SetLines.{set_line-legal, set_line-refused}
use Rattle.bench_session.specs.Runs.{max_set_line, held_bytes}

-- ---- the length of a line in form

pair-length : (p : Pair) (rest : List ℕ) → is_legal_pair p ≡ true → length (print_pair p rest) ≤ max_name + 5 + length rest
unfolding is_legal_pair is_node_name print_pair pair_text value_text
pair-length p rest h =
    let s = name-short _ p.name h in
    go p.value
  where
    go : (v : Bool) → length (ascii " ("
        ++ (p.name ++ (ascii " " ++ (value_text (val v) ++ (ascii ")" ++ rest))))) ≤ max_name + 5 + length rest
    go true = let s = name-short _ p.name h in simp length-append (omega arith)
    go false = let s = name-short _ p.name h in simp length-append (omega arith)

pairs-length : (ps : List Pair) (rest : List ℕ) → all is_legal_pair ps ≡ true
    → length (print_lines print_pair ps rest) ≤ (max_name + 5) * length ps + length rest
unfolding print_lines
pairs-length [] rest h = omega arith
pairs-length (p ∷ ps) rest h =
    let f = (and-eq-true_iff (is_legal_pair p) (all is_legal_pair ps)).0 h in
    let s = pair-length p (print_lines print_pair ps rest) f.0 in
    let r = pairs-length ps rest f.1 in
    omega arith

module _ (n : ℕ) (few : n ≤ max_inputs) where
  legal-length : (line : List ℕ) → LegalLine n line → length line ≤ max_set_line
  unfolding is_legal_set_line print_set_line
  legal-length line l =
      let ps = l.tree in
      let f = (and-eq-true_iff (leb (length ps) n) (all is_legal_pair ps)).0 l.legal in
      let most = leb-true (length ps) n f.0 in
      let s = pairs-length ps (ascii ")\n") f.1 in
      let e : length (ascii "(set" ++ print_lines print_pair ps (ascii ")\n")) ≡ length line = ap length l.printed in
      omega (arith, simp length-append at e)

  viable-length : (beginning : List ℕ) → ViableLine n beginning → length beginning ≤ max_set_line
  viable-length beginning v = omega (arith, legal-length _ v.legal, length-append beginning v.rest)

  -- ---- a longer line is out of form where its beginning is

  module _ (line : List ℕ) (long : held_bytes < length line) where
    held-length : length (take held_bytes line) ≡ held_bytes
    held-length = length-take-le held_bytes line (omega arith)

    early : (place : ℕ) → FirstBadInLine n (take held_bytes line) place → place ≤ max_set_line
    early place f = go (lt-or-le max_set_line place)
      where
        go : (max_set_line < place) ⊎ (place ≤ max_set_line) → place ≤ max_set_line
        go (inr le) = le
        go (inl l) =
            let h = viable-length _ f.begins in
            let e : take place (take held_bytes line) ≡ take held_bytes line =
            take_all place (take held_bytes line) (omega (arith, held-length)) in
            absurd (omega (arith, ap length e, held-length))

    first-bad-whole : (place : ℕ) → FirstBadInLine n (take held_bytes line) place → FirstBadInLine n line place
    first-bad-whole place f =
        let h = early place f in
        record {
          illegal = λ l. omega (arith, legal-length line l);
          begins = rw (take-take place held_bytes line (omega arith)) at f.begins;
          bad = inr (bad f.bad);
        }
      where
        bad : (place ≡ length (take held_bytes line)) ⊎ (ViableLine n (take (suc place) (take held_bytes line)) → ⊥)
            → ViableLine n (take (suc place) line) → ⊥
        bad (inl e) v = omega (arith, e, held-length, early place f)
        bad (inr none) v = let h = early place f in none (rw (take-take (suc place) held_bytes line (omega arith)) v)

module _ (b : Block) (few : input_count b ≤ max_inputs) where
  long-outcome : (line : List ℕ) → held_bytes < length line → line_outcome b (take held_bytes line) ≡ line_outcome b line
  unfolding line_outcome parsed_outcome
  long-outcome line long = go (set_line_reader n short) (set_line_reader n line) refl refl
    where
      n : ℕ
      n = input_count b

      short : List ℕ
      short = take held_bytes line

      go : (p q : Parsed (List Pair)) → set_line_reader n short ≡ p → set_line_reader n line ≡ q
          → parsed_outcome b short p ≡ parsed_outcome b line q
      go (got ps rest) q e f =
          let l = legal-length n few short (set_line-legal n short ps rest e) in
          absurd (omega (arith, held-length n few line long))
      go (stuck left) (got ps rest) e f =
          let l = legal-length n few line (set_line-legal n line ps rest f) in
          absurd (omega arith)
      go (stuck left) (stuck other) e f =
          ap (λ (place : ℕ). refused (SyntaxError place))
          (first-bad-one line (length short - left) (length line - other)
          (first-bad-whole n few line long _ (set_line-refused n short left e)) (set_line-refused n line other f))

  -- Of a line of any length, what is held is answered as the whole line.
  pub held-answer : (line : List ℕ) → line_answer b (take held_bytes line) ≡ line_answer b line
  unfolding line_answer
  held-answer line = go (lt-or-le held_bytes (length line))
    where
      go : (held_bytes < length line) ⊎ (length line ≤ held_bytes)
          → line_answer b (take held_bytes line) ≡ line_answer b line
      go (inl long) = rw (long-outcome line long) refl
      go (inr le) = rw (take_all held_bytes line le) refl
