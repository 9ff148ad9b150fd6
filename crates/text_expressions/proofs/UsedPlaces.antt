-- Every name that a tree declares or uses stands inside its print; so a used name's place is known from the bytes left.
-- Assumes nothing.
use mathlib.Core.Path.{◌≡◌, refl, ap, ◌∙◌}
use mathlib.Core.Bool.{Bool, true, false, cond}
use mathlib.Core.List.{List, [], ◌∷◌, ◌++◌}
use mathlib.Core.Option.{Option as Place, some}
use Rattle.std.specs.declared.option.Option.{Option}
use Rattle.std.specs.declared.option.Option.TheVariants.{None, Some}
use Prim.Native.Nat.{ℕ, ◌+◌, ◌-◌, ◌≤◌}
use native.Mathlib.Omega.{arith}
use lib.ListN.{length, length-append}
use lib.Dec.{leb}
use borrow.Author.Tests.{le-leb, leb-true}
use Rattle.prelude.specs.Lists.{ascii, all, member_list}
use Rattle.prelude.proofs.Tests.{and_left, and_right, and_intro}
use Rattle.prelude.proofs.Quantifiers.{all_append}
use Rattle.netlist.specs.Kinds.{keyword}
use Rattle.netlist.specs.Netlist.{Name}
use Rattle.netlist.specs.Syntax.{Term, Terms, name, literal, apply, nil, cons, GateLine, OutputLine, Tree, print_term}
use Rattle.netlist.specs.Syntax.{print_terms, print_input, print_gate}
use Rattle.netlist.specs.Syntax.{print_output, print}
use Rattle.netlist.specs.Reading.{Mention, mentions, lines_length, gate_lines_at, output_lines_at, term_mentions}
use Rattle.netlist.specs.Reading.{terms_mentions, operand_mentions, shown_mention}
use Rattle.netlist.specs.Reading.{never_lines_at, input_mention, gate_mention, port_mention, declared_nodes, declared_ports}
use Rattle.netlist.specs.Reading.{used_names, first_outside}
use Rattle.theory_grammar.proofs.Shorter.{print_terms-append}
use Rattle.theory_grammar.proofs.Places.{term-measure, print-measure}
use Rattle.netlist.specs.declared.Refusal.TheVariants.{UndeclaredName}
use Rattle.std.specs.declared.result.Result.TheVariants.{Ok, Err}
use Rattle.words_refusals.specs.Tests.{test_at}
use Rattle.text_expressions.specs.Walk.{left_of}

module _ (bound : ℕ) where
  abbrev pub inside : Mention → Bool
  inside m = leb m.place bound

  both : (us vs : List Mention) → all inside us ≡ true → all inside vs ≡ true → all inside (us ++ vs) ≡ true
  both us vs a b = all_append inside us vs ∙ and_intro (all inside us) (all inside vs) a b

  one : (m : Mention) → m.place ≤ bound → all inside (m ∷ []) ≡ true
  one m h = and_intro (inside m) true (le-leb m.place bound h) refl

  mutual
    unfolding term_mentions terms_mentions print_term print_terms

    term-inside : (o : Term) (at : ℕ) → at + length (print_term o []) ≤ bound → all inside (term_mentions o at) ≡ true
    term-inside (name x) at h = one (record { name = x; place = at }) (omega (arith, length-append x []))
    term-inside (literal b) at h = refl
    term-inside (apply k ts) at h =
        let m = ap length (print_terms-append ts [] (ascii ")")) ∙ length-append (print_terms ts []) (ascii ")") in
        terms-inside ts (at + 1 + length (keyword k))
        (omega (arith, length-append (keyword k) (print_terms ts (ascii ")"))))

    terms-inside : (ts : Terms) (at : ℕ) → at + length (print_terms ts []) ≤ bound
        → all inside (terms_mentions ts at) ≡ true
    terms-inside nil at h = refl
    terms-inside (cons o ts) at h =
        let m = term-measure o (print_terms ts []) in
        both (term_mentions o (at + 1)) (terms_mentions ts (at + 1 + length (print_term o [])))
        (term-inside o (at + 1) (omega arith)) (terms-inside ts (at + 1 + length (print_term o [])) (omega arith))

  gate-inside : (g : GateLine) (at : ℕ) → at + length (print_gate g []) ≤ bound
      → all inside (operand_mentions g at) ≡ true
  unfolding operand_mentions print_gate
  gate-inside g at h =
      let o = apply g.kind g.terms in
      let inner = print_term o (ascii ")\n") in
      term-inside o (at + 6 + length g.name + 1)
      (omega (
        arith,
        term-measure o (ascii ")\n"),
        length-append
            (ascii "(gate ") (g.name ++ (32 ∷ inner)),
        length-append g.name (32 ∷ inner),
      ))

  named-inside : (g : GateLine) (at : ℕ) → at + length (print_gate g []) ≤ bound → all inside (gate_mention g at) ≡ true
  unfolding gate_mention print_gate
  named-inside g at h = one (record { name = g.name; place = at + 6 }) (omega arith)

  input-inside : (s : Name) (at : ℕ) → at + length (print_input s []) ≤ bound → all inside (input_mention s at) ≡ true
  unfolding input_mention print_input
  input-inside s at h = one (record { name = s; place = at + 4 }) (omega arith)

  port-inside : (o : OutputLine) (at : ℕ) → at + length (print_output o []) ≤ bound
      → all inside (port_mention o at) ≡ true
  unfolding port_mention print_output
  port-inside o at h = one (record { name = o.port; place = at + 5 }) (omega arith)

  output-inside : (o : OutputLine) (at : ℕ) → at + length (print_output o []) ≤ bound
      → all inside (shown_mention o at) ≡ true
  unfolding shown_mention print_output
  output-inside o at h =
      let inner = o.shown ++ ascii ")\n" in
      one (record { name = o.shown; place = at + 5 + length o.port + 1 })
      (omega (arith, length-append (ascii "(out ") (o.port ++ (32 ∷ inner)), length-append o.port (32 ∷ inner)))

  lines-inside : {A : Type 0} (printed : A → List ℕ → List ℕ) (in_line : A → ℕ → List Mention)
      → ((x : A) (at : ℕ) → at + length (printed x []) ≤ bound → all inside (in_line x at) ≡ true)
      → (xs : List A) (at : ℕ) → at + lines_length printed xs ≤ bound → all inside (mentions printed in_line xs at) ≡ true
  unfolding mentions lines_length
  lines-inside printed in_line f [] at h = refl
  lines-inside printed in_line f (x ∷ xs) at h =
      both (in_line x at) (mentions printed in_line xs (at + length (printed x [])))
      (f x at (omega arith)) (lines-inside printed in_line f xs (at + length (printed x [])) (omega arith))

  -- the test's answer, from the bytes left at a place
  abbrev PlaceBack : Option ℕ → Place ℕ → Type 0
  PlaceBack u p = (u ≡ None → Ok tt ≡ test_at p UndeclaredName) ×
      ((k : ℕ) → u ≡ Some k → Err (UndeclaredName (bound - k)) ≡ test_at p UndeclaredName)

  pub place-back : (ds : List Name) (ms : List Mention) (u : Option ℕ) → all inside ms ≡ true
      → u ≡ left_of bound (first_outside ds ms)
      → PlaceBack u (first_outside ds ms)
  unfolding first_outside left_of test_at
  place-back ds [] u h e = (λ z. refl, λ k z. cc)
  place-back ds (m ∷ ms) u h e = go (member_list m.name ds) e
      (place-back ds ms u (and_right (inside m) (all inside ms) h))
    where
      go : (b : Bool) → u ≡ left_of bound (cond b (first_outside ds ms) (some m.place))
          → (u ≡ left_of bound (first_outside ds ms) → PlaceBack u (first_outside ds ms))
          → PlaceBack u (cond b (first_outside ds ms) (some m.place))
      go true e r = r e
      go false e r =
          let l = leb-true m.place bound (and_left (inside m) (all inside ms) h) in (
            λ z. cc,
            λ k z.
                let q : k ≡ bound - m.place = cc in
                let j : bound - k ≡ m.place = omega arith in
                rw j,
          )

-- the names that a tree declares
pub nodes-inside : (t : Tree) → all (inside (length (print t))) (declared_nodes t) ≡ true
unfolding declared_nodes output_lines_at gate_lines_at never_lines_at
nodes-inside t =
    let m = print-measure t in
    both (length (print t)) (mentions print_input input_mention t.inputs 0)
    (mentions print_gate gate_mention t.gates (gate_lines_at t))
    (lines-inside (length (print t)) print_input input_mention (input-inside (length (print t))) t.inputs 0
    (omega arith))
    (lines-inside (length (print t)) print_gate gate_mention (named-inside (length (print t))) t.gates (gate_lines_at t)
    (omega arith))

pub ports-inside : (t : Tree) → all (inside (length (print t))) (declared_ports t) ≡ true
unfolding declared_ports
ports-inside t =
    let m = print-measure t in
    lines-inside (length (print t)) print_output port_mention (port-inside (length (print t))) t.outputs
    (output_lines_at t) (omega arith)

-- the names that a tree uses
pub used-inside : (t : Tree) → all (inside (length (print t))) (used_names t) ≡ true
unfolding used_names output_lines_at
used-inside t =
    let m = print-measure t in
    both (length (print t)) (mentions print_gate operand_mentions t.gates (gate_lines_at t))
    (mentions print_output shown_mention t.outputs (output_lines_at t))
    (lines-inside (length (print t)) print_gate operand_mentions (gate-inside (length (print t))) t.gates
    (gate_lines_at t) (omega arith))
    (lines-inside (length (print t)) print_output shown_mention (output-inside (length (print t))) t.outputs
    (output_lines_at t) (omega arith))
