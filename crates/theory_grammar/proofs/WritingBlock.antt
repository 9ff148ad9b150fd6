-- The netlist of what Write prints is the block it was given. Assumes nothing.
--   block_of-flat_tree: the block of the written tree is the block
use Prim.Native.Nat.{ℕ, zero, suc, ◌+◌, ◌<◌, ◌≤◌}
use mathlib.Core.Path.{◌≡◌, refl, sym, ap, ap₂, ◌∙◌}
use mathlib.Core.Bool.{true, and-eq-true_iff, false≢true}
use mathlib.Core.List.{List, [], ◌∷◌, ◌++◌, map}
use native.Mathlib.Omega.{arith}
use lib.ListN.{length, get_or}
use borrow.Author.Tests.{ltb-true}
use Rattle.prelude.specs.Lists.{all, tab, up_to, distinct}
use Rattle.prelude.proofs.Quantifiers.{all-at}
use Rattle.prelude.proofs.Same.{same_refl}
use Rattle.prelude.proofs.Tab.{tab-get_d, get_d-tab, length-tab}
use Rattle.netlist.specs.Limits.{max_gates}
use Rattle.netlist.specs.Assignments.{Assignment}
use Rattle.netlist.specs.Netlist.{Name, Operand, input, gate, constant, Output, Block, input_count, gate_count, gate_of}
use Rattle.netlist.specs.StoredBlock.{is_node, is_operand, never_fits, is_well_formed}
use Rattle.netlist.specs.Names.{is_plain_name}
use Rattle.netlist.specs.Syntax.{OutputLine}
use Rattle.netlist.specs.Reading.{gates_in, gates_inside, line_gates, Binding, input_bindings, gate_bindings, bindings}
use Rattle.netlist.specs.Reading.{lookup, term_node, terms_nodes, term_gates, terms_gates, lines_gates, assignment_of}
use Rattle.netlist.specs.Reading.{block_of}
use Rattle.netlist.specs.Writing.{gate_name, node_name_of, term_of, terms_of, flat_line, pairs_of, flat_tree}
use Rattle.theory_grammar.proofs.ListFacts.{ne_same, distinct_apart, distinct-parts, tab-map}
use Rattle.theory_encoding.proofs.WellFormed.{WellFormed, well_formed-parts}
use Rattle.theory_grammar.proofs.WellFormed.{gate-facts}
use Rattle.theory_grammar.proofs.WritingNevers.{assignment_of-pairs_of}
use Rattle.theory_grammar.proofs.WritingNames.{gate_name-injective, gate_name-no-input}

-- ---- flat expressions have no gates inside

module _ (b : Block) where
  flat-gates_in : (o : Operand) → gates_in (term_of b o) ≡ 0
  unfolding term_of gates_in
  flat-gates_in (input i) = refl
  flat-gates_in (gate j) = refl
  flat-gates_in (constant c) = refl

  flat-gates_inside : (os : List Operand) → gates_inside (terms_of b os) ≡ 0
  unfolding terms_of gates_inside
  flat-gates_inside [] = refl
  flat-gates_inside (o ∷ os) = rw (flat-gates_in o, flat-gates_inside os)

  pub flat-line_gates : (j : ℕ) → line_gates (flat_line b j) ≡ 1
  unfolding line_gates flat_line
  flat-line_gates j = rw (flat-gates_inside (gate_of b j).operands)

  flat-term_gates : (o : Operand) (names : List Binding) (first : ℕ) → term_gates (term_of b o) names first ≡ []
  unfolding term_of term_gates
  flat-term_gates (input i) names first = refl
  flat-term_gates (gate j) names first = refl
  flat-term_gates (constant c) names first = refl

  flat-terms_gates : (os : List Operand) (names : List Binding) (first : ℕ) → terms_gates (terms_of b os) names first ≡ []
  unfolding terms_of terms_gates
  flat-terms_gates [] names first = refl
  flat-terms_gates (o ∷ os) names first = rw (flat-term_gates o names first) (flat-terms_gates os names _)

-- ---- every name of a written text is found

lookup-input : (xs : List Name) (k : ℕ) (others : List Binding) (i : ℕ) → distinct xs ≡ true → i < length xs
    → lookup (input_bindings xs k ++ others) (get_or xs i []) ≡ input (k + i)
unfolding lookup input_bindings
lookup-input [] k others i d l = absurd (omega arith)
lookup-input (x ∷ xs) k others zero d l = let e : k ≡ k + 0 = omega arith in rw (same_refl x) (ap input e)
lookup-input (x ∷ xs) k others (suc i) d l =
    let e : suc k + i ≡ k + suc i = omega arith in
    rw (ne_same (get_or xs i []) x (λ q. distinct_apart (x ∷ xs) d 0 (suc i) (omega arith) l (sym q)))
    (lookup-input xs (suc k) others i (distinct-parts x xs d).1 (omega arith) ∙ ap input e)

lookup-past : (xs : List Name) (k : ℕ) (others : List Binding) (s : Name)
    → ((i : ℕ) → i < length xs → s ≡ get_or xs i [] → ⊥)
    → lookup (input_bindings xs k ++ others) s ≡ lookup others s
unfolding lookup input_bindings
lookup-past [] k others s h = refl
lookup-past (x ∷ xs) k others s h =
    rw (ne_same s x (h 0 (omega arith))) (lookup-past xs (suc k) others s (λ i l. h (suc i) (omega arith)))

lookup-gate : (b : Block) (js : List ℕ) (first i : ℕ) → i < length js
    → ((k : ℕ) → k < i → gate_name (get_or js i 0) ≡ gate_name (get_or js k 0) → ⊥)
    → lookup (gate_bindings (map (flat_line b) js) first) (gate_name (get_or js i 0)) ≡ gate (first + i)
unfolding lookup gate_bindings flat_line
lookup-gate b [] first i l h = absurd (omega arith)
lookup-gate b (j ∷ js) first zero l h = rw (same_refl (gate_name j), flat-gates_inside b (gate_of b j).operands)
lookup-gate b (j ∷ js) first (suc i) l h =
    let e : first + 1 + i ≡ first + suc i = omega arith in
    rw (ne_same (gate_name (get_or js i 0)) (gate_name j) (h 0 (omega arith)), flat-line_gates b j)
    (lookup-gate b js (first + 1) i (omega arith) (λ k m. h (suc k) (omega arith)) ∙ ap gate e)

lookup-written : (b : Block) (m : ℕ) → m ≤ max_gates → (j : ℕ) → j < m
    → lookup (gate_bindings (tab (flat_line b) m) 0) (gate_name j) ≡ gate j
lookup-written b m few j l =
    let below : (k : ℕ) → k < m → get_or (up_to m) k 0 ≡ k = λ k q. get_d-tab (λ k. k) m k 0 q in
    let e : 0 + j ≡ j = omega arith in
    let h = lookup-gate b (up_to m) 0 j (rw (length-tab (λ k. k) m) l)
    (λ k q. rw (below j l, below k (omega arith)) λ p.
    let z = gate_name-injective j k (omega arith) (omega arith) p in omega arith) in
    rw (tab-map (flat_line b) m) ((rw (below j l) at h) ∙ ap gate e)

module _ (b : Block) (w : WellFormed b) where
  found-input : (i : ℕ) → i < input_count b → lookup (bindings (flat_tree b)) (get_or b.inputs i []) ≡ input i
  unfolding bindings flat_tree
  found-input i l = lookup-input b.inputs 0 _ i w.inputs_distinct l
      ∙ ap input (let e : 0 + i ≡ i = omega arith in e)

  found-gate : (j : ℕ) → j < gate_count b → lookup (bindings (flat_tree b)) (gate_name j) ≡ gate j
  unfolding bindings flat_tree
  found-gate j l =
      lookup-past b.inputs 0 _ (gate_name j)
      (λ i m q. gate_name-no-input j (get_or b.inputs i []) (all-at is_plain_name b.inputs i [] w.input_names m)
      (sym q))
      ∙ lookup-written b (gate_count b) w.few_gates j l

  found : (o : Operand) → is_node b o ≡ true → lookup (bindings (flat_tree b)) (node_name_of b o) ≡ o
  unfolding node_name_of is_node
  found (input i) h = found-input i (ltb-true i (input_count b) h)
  found (gate j) h = found-gate j (ltb-true j (gate_count b) h)
  found (constant c) h = absurd (false≢true h)

  found-term : (o : Operand) (first : ℕ) → is_operand b o ≡ true
      → term_node (term_of b o) (bindings (flat_tree b)) first ≡ o
  unfolding term_node term_of is_operand
  found-term (input i) first h = found (input i) h
  found-term (gate j) first h = found (gate j) h
  found-term (constant c) first h = refl

  found-terms : (os : List Operand) (first : ℕ) → all (is_operand b) os ≡ true
      → terms_nodes (terms_of b os) (bindings (flat_tree b)) first ≡ os
  unfolding terms_nodes terms_of
  found-terms [] first h = refl
  found-terms (o ∷ os) first h =
      let f = (and-eq-true_iff (is_operand b o) (all (is_operand b) os)).0 h in
      ap₂ ◌∷◌ (found-term o first f.0) (found-terms os _ f.1)

  lines-gates : (js : List ℕ) (first : ℕ)
      → lines_gates (map (flat_line b) js) (bindings (flat_tree b)) first ≡ map (gate_of b) js
  unfolding lines_gates flat_line term_gates
  lines-gates [] first = refl
  lines-gates (j ∷ js) first =
      let os = (gate_of b j).operands in
      rw (
        flat-terms_gates b os (bindings (flat_tree b)) first,
        found-terms os first (gate-facts b w j).fit,
        lines-gates js (first + line_gates (flat_line b j)),
      )

  outputs-shown : (os : List Output) → all (λ o. is_node b o.node) os ≡ true
      → map (λ (o : OutputLine). record { port = o.port; node = lookup (bindings (flat_tree b)) o.shown })
      (map (λ (o : Output). record { port = o.port; shown = node_name_of b o.node }) os) ≡ os
  outputs-shown [] h = refl
  outputs-shown (o ∷ os) h =
      let f = (and-eq-true_iff (is_node b o.node) (all (λ o. is_node b o.node) os)).0 h in
      rw (found o.node f.0, outputs-shown os f.1)

  written-nevers : (ns : List Assignment) → all (never_fits b) ns ≡ true
      → map (assignment_of b.inputs) (map (pairs_of b) ns) ≡ ns
  written-nevers [] h = refl
  written-nevers (a ∷ ns) h =
      let f = (and-eq-true_iff (never_fits b a) (all (never_fits b) ns)).0 h in
      ap₂ ◌∷◌ (assignment_of-pairs_of b a w.inputs_distinct f.0) (written-nevers ns f.1)

  written-gates : lines_gates (tab (flat_line b) (gate_count b)) (bindings (flat_tree b)) 0 ≡ b.gates
  written-gates =
      rw (tab-map (flat_line b) (gate_count b), lines-gates (up_to (gate_count b)) 0, ← tab-map (gate_of b) (gate_count b))
      (tab-get_d (record { kind = 0; operands = [] }) b.gates (gate_count b) refl)

-- The netlist of the tree that a well-formed block is written as is the block.
pub block_of-flat_tree : (b : Block) → is_well_formed b ≡ true → block_of (flat_tree b) ≡ b
unfolding block_of flat_tree
block_of-flat_tree b h =
    let w = well_formed-parts b h in
    λ i. record {
      inputs = b.inputs;
      nevers = written-nevers b w b.nevers w.nevers_fit i;
      gates = written-gates b w i;
      outputs = outputs-shown b w b.outputs w.nodes_there i;
    }
