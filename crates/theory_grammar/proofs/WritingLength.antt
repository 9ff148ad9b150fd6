-- A written text has at most 58,098 bytes: 14 for each of 12 inputs, 164 for each of 8 never lines, 51 and the name for
-- each of 1,024 gates, 24 for each of 16 outputs. Assumes nothing.
use Prim.Native.Nat.{ℕ, zero, suc, ◌+◌, ◌-◌, ◌*◌, ◌≤◌}
use mathlib.Core.Path.{◌≡◌, refl}
use mathlib.Core.Bool.{Bool, true, false, ◌&&◌, and-eq-true_iff}
use mathlib.Core.List.{List, [], ◌∷◌, ◌++◌, map}
use native.Mathlib.Omega.{arith}
use lib.ListN.{length, get_or, length-append}
use lib.Dec.{leb}
use borrow.Author.Tests.{leb-true, le-leb}
use Rattle.prelude.specs.Lists.{ascii, all, tab, up_to, sum}
use Rattle.prelude.proofs.Quantifiers.{all-at}
use Rattle.prelude.proofs.Tab.{length-tab}
use Rattle.prelude.proofs.Lists.{sum-map-append}
use Rattle.theory_encoding.proofs.Gates.{most-four}
use Rattle.netlist.specs.Limits.{max_name, max_gates, max_never_line, max_written}
use Rattle.netlist.specs.Values.{val}
use Rattle.netlist.specs.Assignments.{Assignment}
use Rattle.netlist.specs.Kinds.{is_kind, keyword, signature_of}
use Rattle.netlist.specs.Netlist.{Name, Operand, input, gate, constant, Output, Block, gate_count, gate_of}
use Rattle.netlist.specs.StoredBlock.{is_node, is_operand, is_well_formed}
use Rattle.netlist.specs.Names.{is_name_byte, is_legal_name, is_plain_name, is_node_name}
use Rattle.netlist.specs.Syntax.{Pair, value_text, pair_text, print_term, print_terms, print_input, print_pair, print_never}
use Rattle.netlist.specs.Syntax.{print_gate, print_output, print_lines, print}
use Rattle.netlist.specs.Writing.{digits, decimal, gate_name, node_name_of, term_of, terms_of, flat_line, pairs_of, flat_tree}
use Rattle.netlist.specs.Writing.{written_text}
use Rattle.theory_grammar.proofs.ListFacts.{and3, tab-map}
use Rattle.theory_encoding.proofs.Gates.{by_kind}
use Rattle.theory_encoding.proofs.WellFormed.{WellFormed, well_formed-parts}
use Rattle.theory_grammar.proofs.WellFormed.{gate-facts}
use Rattle.theory_grammar.proofs.WritingNevers.{pairs-all, pairs-few}
use Rattle.theory_grammar.proofs.WritingTree.{node-legal}

pub name-short : (start : ℕ → Bool) (x : Name) → is_legal_name start x ≡ true → length x ≤ max_name
unfolding is_legal_name
name-short start x h =
    let a = and3 (leb 1 (length x) && leb (length x) max_name) (start (get_or x 0 0)) (all is_name_byte x) h in
    leb-true (length x) max_name ((and-eq-true_iff (leb 1 (length x)) (leb (length x) max_name)).0 a.0).1

-- ---- the names of the gates

names-length : ℕ → ℕ
names-length m = sum (map (λ j. length (gate_name j)) (up_to m))

names-length-all : names-length max_gates ≡ 4010
unfolding names-length digits decimal gate_name
names-length-all = refl

names_more : (m more : ℕ) → names-length m ≤ names-length (m + more)
unfolding names-length
names_more m zero = let e : m ≡ m + 0 = omega arith in rw (← e) (omega arith)
names_more m (suc more) =
    let e : suc (m + more) ≡ m + suc more = omega arith in
    rw (← e)
    (omega
    (arith, names_more m more, sum-map-append (λ j. length (gate_name j)) (up_to (m + more)) ((m + more) ∷ [])))

names-few : (m : ℕ) → m ≤ max_gates → names-length m ≤ 4010
names-few m le =
    let e : m + (max_gates - m) ≡ max_gates = omega arith in
    rw (← names-length-all, ← e) (names_more m (max_gates - m))

-- ---- the lines

keyword-short : (k : ℕ) → is_kind k ≡ true → length (keyword k) ≤ 4
unfolding keyword signature_of
keyword-short =
    by_kind (λ k. length (keyword k) ≤ 4) (omega arith) (omega arith) (omega arith) (omega arith) (omega arith)
    (omega arith) (omega arith)

inputs-length : (xs : List Name) (rest : List ℕ) → all is_plain_name xs ≡ true
    → length (print_lines print_input xs rest) ≤ 14 * length xs + length rest
unfolding print_lines print_input is_plain_name
inputs-length [] rest h = omega arith
inputs-length (x ∷ xs) rest h =
    let f = (and-eq-true_iff (is_plain_name x) (all is_plain_name xs)).0 h in
    let s = name-short _ x f.0 in
    let r = inputs-length xs rest f.1 in
    simp length-append (omega arith)

pairs-short : (ps : List Pair) (rest : List ℕ) → all (λ p. leb (length p.name) max_name) ps ≡ true
    → length (print_lines print_pair ps rest) ≤ 13 * length ps + length rest
unfolding print_lines print_pair pair_text value_text
pairs-short [] rest h = omega arith
pairs-short (p ∷ ps) rest h =
    let f = (and-eq-true_iff (leb (length p.name) max_name) (all (λ p. leb (length p.name) max_name) ps)).0 h in
    let s = leb-true (length p.name) max_name f.0 in
    let v = value-short p.value in
    let r = pairs-short ps rest f.1 in
    simp length-append (omega arith)
  where
    value-short : (v : Bool) → length (value_text (val v)) ≡ 1
    value-short true = refl
    value-short false = refl

module _ (b : Block) (w : WellFormed b) where
  never-short : (a : Assignment) (rest : List ℕ) → length (print_never (pairs_of b a) rest) ≤ max_never_line + length rest
  unfolding print_never is_plain_name
  never-short a rest =
      let h = pairs-all b a (λ p. leb (length p.name) max_name)
      (λ j l. le-leb _ max_name
      (name-short _ (get_or b.inputs j []) (all-at is_plain_name b.inputs j [] w.input_names l))) in
      omega (arith, pairs-short (pairs_of b a) (ascii ")\n" ++ rest) h, pairs-few b a, w.few_inputs)

  nevers-length : (ns : List Assignment) (rest : List ℕ)
      → length (print_lines print_never (map (pairs_of b) ns) rest) ≤ max_never_line * length ns + length rest
  unfolding print_lines
  nevers-length [] rest = omega arith
  nevers-length (a ∷ ns) rest =
      let s = never-short a (print_lines print_never (map (pairs_of b) ns) rest) in
      let r = nevers-length ns rest in
      omega arith

  node-short : (o : Operand) → is_node b o ≡ true → length (node_name_of b o) ≤ 8
  unfolding is_node_name
  node-short o h = name-short _ (node_name_of b o) (node-legal b w o h)

  term-short : (o : Operand) (rest : List ℕ) → is_operand b o ≡ true
      → length (print_term (term_of b o) rest) ≤ 8 + length rest
  unfolding term_of print_term is_operand
  term-short (input i) rest h = let s = node-short (input i) h in simp length-append (omega arith)
  term-short (gate j) rest h = let s = node-short (gate j) h in simp length-append (omega arith)
  term-short (constant true) rest h = omega arith
  term-short (constant false) rest h = omega arith

  terms-short : (os : List Operand) (rest : List ℕ) → all (is_operand b) os ≡ true
      → length (print_terms (terms_of b os) rest) ≤ 9 * length os + length rest
  unfolding terms_of print_terms
  terms-short [] rest h = omega arith
  terms-short (o ∷ os) rest h =
      let f = (and-eq-true_iff (is_operand b o) (all (is_operand b) os)).0 h in
      let s = term-short o (print_terms (terms_of b os) rest) f.0 in
      let r = terms-short os rest f.1 in
      omega arith

  outputs-length : (os : List Output) (rest : List ℕ) → all (λ o. is_plain_name o.port) os ≡ true
      → all (λ o. is_node b o.node) os ≡ true
      → length (print_lines print_output
      (map (λ (o : Output). record { port = o.port; shown = node_name_of b o.node }) os) rest) ≤ 24 * length os
      + length rest
  unfolding print_lines print_output is_plain_name
  outputs-length [] rest p n = omega arith
  outputs-length (o ∷ os) rest p n =
      let f = (and-eq-true_iff (is_plain_name o.port) (all (λ o. is_plain_name o.port) os)).0 p in
      let g = (and-eq-true_iff (is_node b o.node) (all (λ o. is_node b o.node) os)).0 n in
      let s = name-short _ o.port f.0 in
      let t = node-short o.node g.0 in
      let r = outputs-length os rest f.1 g.1 in
      simp length-append (omega arith)

  gate-short : (j : ℕ) (rest : List ℕ) → length (print_gate (flat_line b j) rest) ≤ 51 + length (gate_name j) + length rest
  unfolding print_gate flat_line print_term
  gate-short j rest =
      let f = gate-facts b w j in
      let g = gate_of b j in
      let k = keyword-short g.kind f.kind_legal in
      let m = most-four g.kind in
      let n = f.few in
      let s = terms-short g.operands (ascii "))\n" ++ rest) f.fit in
      simp length-append (omega arith)

  gates-length : (js : List ℕ) (rest : List ℕ)
      → length (print_lines print_gate (map (flat_line b) js) rest) ≤ 51 * length js
      + sum (map (λ j. length (gate_name j)) js) + length rest
  unfolding print_lines
  gates-length [] rest = omega arith
  gates-length (j ∷ js) rest =
      let s = gate-short j (print_lines print_gate (map (flat_line b) js) rest) in
      let r = gates-length js rest in
      omega arith

  tab-length : (m : ℕ) → m ≤ max_gates → (rest : List ℕ)
      → length (print_lines print_gate (tab (flat_line b) m) rest) ≤ 51 * m + 4010 + length rest
  unfolding names-length
  tab-length m few rest =
      let n = names-few m few in
      let l = length-tab (λ k. k) m in
      let g = gates-length (up_to m) rest in
      rw (tab-map (flat_line b) m) (omega arith)

-- The length of a written text, and that it is not too long.
pub written-length : (b : Block) → is_well_formed b ≡ true → length (written_text b) ≤ max_written
unfolding written_text print flat_tree
written-length b h =
    let w = well_formed-parts b h in
    let o = outputs-length b w b.outputs [] w.port_names w.nodes_there in
    let shown = print_lines print_output
    (map (λ (o : Output). record { port = o.port; shown = node_name_of b o.node }) b.outputs) [] in
    let g = tab-length b w (gate_count b) w.few_gates shown in
    let gates = print_lines print_gate (tab (flat_line b) (gate_count b)) shown in
    let l = nevers-length b w b.nevers gates in
    let i = inputs-length b.inputs (print_lines print_never (map (pairs_of b) b.nevers) gates) w.input_names in
    omega (arith, w.few_inputs, w.few_nevers, w.few_gates, w.few_outputs)
