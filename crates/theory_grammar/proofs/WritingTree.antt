-- What Write prints is a legal tree. Assumes nothing.
--   flat_tree-legal: the tree of a well-formed block is legal
use Prim.Native.Nat.{ℕ, suc, ◌-◌, ◌<◌}
use mathlib.Core.Path.{◌≡◌, refl, ap}
use mathlib.Core.Bool.{true, ◌&&◌, and-eq-true_iff, false≢true}
use mathlib.Core.List.{List, [], ◌∷◌, map}
use native.Mathlib.Omega.{arith}
use lib.ListN.{length, get_or}
use lib.Dec.{leb}
use borrow.Author.Tests.{ltb-true, le-leb}
use Rattle.prelude.specs.Lists.{all}
use Rattle.prelude.proofs.Quantifiers.{all-at, all-tab-from}
use Rattle.netlist.specs.Limits.{max_name, max_depth}
use Rattle.netlist.specs.Kinds.{is_kind, arity_fits}
use Rattle.netlist.specs.Assignments.{Assignment}
use Rattle.netlist.specs.Netlist.{Name, Operand, input, gate, constant, Output, Block, input_count, gate_count, gate_of}
use Rattle.netlist.specs.StoredBlock.{is_node, is_operand, never_fits}
use Rattle.netlist.specs.Names.{is_letter, is_name_byte, is_name_start, is_legal_name, is_plain_name, is_node_name}
use Rattle.netlist.specs.StoredBlock.{gate_fits, is_well_formed}
use Rattle.netlist.specs.Syntax.{term_count, is_legal_term, is_legal_terms, is_legal_pair, is_legal_never, is_legal_gate}
use Rattle.netlist.specs.Syntax.{is_legal_output, is_legal_tree}
use Rattle.netlist.specs.Writing.{node_name_of, term_of, terms_of, flat_line, pairs_of, flat_tree}
use Rattle.theory_grammar.proofs.ListFacts.{and3}
use Rattle.theory_encoding.proofs.WellFormed.{WellFormed, well_formed-parts}
use Rattle.theory_grammar.proofs.WritingNames.{gate_name-legal}
use Rattle.theory_grammar.proofs.WritingNevers.{pairs-some, pairs-all}

pub plain-node : (x : Name) → is_plain_name x ≡ true → is_node_name x ≡ true
unfolding is_plain_name is_node_name is_legal_name is_name_start
plain-node x h =
    let a = and3 (leb 1 (length x) && leb (length x) max_name) (is_letter (get_or x 0 0)) (all is_name_byte x) h in
    rw (a.0, a.1, a.2)

module _ (b : Block) (w : WellFormed b) where
  pub node-legal : (o : Operand) → is_node b o ≡ true → is_node_name (node_name_of b o) ≡ true
  unfolding node_name_of is_node
  node-legal (input i) h =
      plain-node _ (all-at is_plain_name b.inputs i [] w.input_names (ltb-true i (input_count b) h))
  node-legal (gate j) h = let g = ltb-true j (gate_count b) h in gate_name-legal j (omega (arith, w.few_gates))
  node-legal (constant c) h = absurd (false≢true h)

  term-legal : (depth : ℕ) (o : Operand) → is_operand b o ≡ true → is_legal_term (term_of b o) depth ≡ true
  unfolding term_of is_legal_term is_operand
  term-legal depth (input i) h = node-legal (input i) h
  term-legal depth (gate j) h = node-legal (gate j) h
  term-legal depth (constant c) h = refl

  terms-legal : (depth : ℕ) (os : List Operand) → all (is_operand b) os ≡ true → is_legal_terms (terms_of b os) depth ≡ true
  unfolding terms_of is_legal_terms
  terms-legal depth [] h = refl
  terms-legal depth (o ∷ os) h =
      let f = (and-eq-true_iff (is_operand b o) (all (is_operand b) os)).0 h in
      rw (term-legal depth o f.0) (terms-legal depth os f.1)

  pub terms-count : (os : List Operand) → term_count (terms_of b os) ≡ length os
  unfolding terms_of term_count
  terms-count [] = refl
  terms-count (o ∷ os) = ap suc (terms-count os)

  line-legal : (j : ℕ) → j < gate_count b → is_legal_gate (flat_line b j) ≡ true
  unfolding is_legal_gate flat_line is_legal_term gate_fits
  line-legal j h =
      let g = gate_of b j in
      let a = all-at (gate_fits b) b.gates j (record { kind = 0; operands = [] }) w.gates_fit h in
      let f =
      and3 (is_kind g.kind) (arity_fits g.kind (length g.operands)) (all (is_operand b) g.operands) a in
      rw (gate_name-legal j (omega (arith, w.few_gates)), f.0, terms-count g.operands, f.1)
      (terms-legal (max_depth - 1) g.operands f.2)

  outputs-legal : (os : List Output) → all (λ o. is_plain_name o.port) os ≡ true
      → all (λ o. is_node b o.node) os ≡ true
      → all is_legal_output (map (λ (o : Output). record { port = o.port; shown = node_name_of b o.node }) os) ≡ true
  unfolding is_legal_output
  outputs-legal [] p n = refl
  outputs-legal (o ∷ os) p n =
      let f = (and-eq-true_iff (is_plain_name o.port) (all (λ o. is_plain_name o.port) os)).0 p in
      let g = (and-eq-true_iff (is_node b o.node) (all (λ o. is_node b o.node) os)).0 n in
      rw (f.0, node-legal o.node g.0) (outputs-legal os f.1 g.1)

  never-legal : (a : Assignment) → never_fits b a ≡ true → is_legal_never (pairs_of b a) ≡ true
  unfolding is_legal_never is_legal_pair
  never-legal a h =
      rw (le-leb 1 (length (pairs_of b a)) (pairs-some b a w.inputs_distinct h))
      (pairs-all b a is_legal_pair (λ j l. plain-node _ (all-at is_plain_name b.inputs j [] w.input_names l)))

  nevers-legal : (ns : List Assignment) → all (never_fits b) ns ≡ true → all is_legal_never (map (pairs_of b) ns) ≡ true
  nevers-legal [] h = refl
  nevers-legal (a ∷ ns) h =
      let f = (and-eq-true_iff (never_fits b a) (all (never_fits b) ns)).0 h in
      rw (never-legal a f.0) (nevers-legal ns f.1)

-- The tree that a well-formed block is written as is legal.
pub flat_tree-legal : (b : Block) → is_well_formed b ≡ true → is_legal_tree (flat_tree b) ≡ true
unfolding is_legal_tree flat_tree
flat_tree-legal b h =
    let w = well_formed-parts b h in
    rw (
      w.input_names,
      nevers-legal b w b.nevers w.nevers_fit,
      all-tab-from is_legal_gate (flat_line b) (gate_count b) (line-legal b w),
    )
    (outputs-legal b w b.outputs w.port_names w.nodes_there)
