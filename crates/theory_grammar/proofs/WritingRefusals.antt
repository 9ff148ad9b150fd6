-- What Write prints is refused for no limit, no repeated and no undeclared name. Assumes nothing.
--   flat_tree-within: within the limits
--   flat_tree-unrepeated: nothing declared twice, and no name twice in a never line
--   flat_tree-declared: nothing used that is not declared, and only inputs in never lines
use Prim.Native.Nat.{ℕ, suc, ◌+◌, ◌<◌}
use mathlib.Core.Path.{◌≡◌, refl, sym, ap₂, ◌∙◌}
use mathlib.Core.Bool.{Bool, true, false, and-eq-true_iff, false≢true}
use mathlib.Core.List.{List, [], ◌∷◌, ◌++◌, map, map-append, map-id, map-map}
use mathlib.Core.Option.{none}
use native.Mathlib.Omega.{arith}
use lib.ListN.{length, get_or, length-map, length-append, get_or-append}
use lib.Seq.{get_or-append-add}
use borrow.Author.Tests.{ltb-true, le-leb}
use Rattle.prelude.specs.Lists.{all, tab, up_to, member_list, distinct, sum}
use Rattle.prelude.proofs.Quantifiers.{all-at, all_append}
use Rattle.prelude.proofs.Tab.{get_d-tab, length-tab, map-tab}
use Rattle.netlist.specs.Limits.{max_inputs, max_nevers, max_gates, max_outputs}
use Rattle.netlist.specs.Assignments.{Assignment}
use Rattle.netlist.specs.Netlist.{Name, Operand, input, gate, constant, Output, Block, input_count, gate_count}
use Rattle.netlist.specs.Netlist.{output_count, never_count, gate_of}
use Rattle.netlist.specs.StoredBlock.{is_node, is_operand, is_well_formed}
use Rattle.netlist.specs.Names.{is_plain_name}
use Rattle.netlist.specs.Syntax.{GateLine, OutputLine, Pair, print_input, print_pair, print_never, print_gate}
use Rattle.netlist.specs.Syntax.{print_output}
use Rattle.netlist.specs.Reading.{line_gates, is_over_limit, Mention, mentions, input_mention, gate_mention, port_mention}
use Rattle.netlist.specs.Reading.{shown_mention, term_mentions, terms_mentions, operand_mentions, declared_nodes}
use Rattle.netlist.specs.Reading.{declared_ports, used_names, first_repeat, or_else, first_duplicate, first_outside}
use Rattle.netlist.specs.Reading.{first_undeclared, never_lines_at, pair_mention, never_mentions, excluded_names, lesser}
use Rattle.netlist.specs.Reading.{first_repeat_in}
use Rattle.netlist.specs.Writing.{gate_name, node_name_of, term_of, terms_of, flat_line, pairs_of, flat_tree}
use Rattle.theory_grammar.proofs.ListFacts.{ne_same, member_list-from, distinct_apart, tab-map, Apart}
use Rattle.theory_grammar.proofs.ListFacts.{apart-append}
use Rattle.theory_encoding.proofs.WellFormed.{WellFormed, well_formed-parts}
use Rattle.theory_grammar.proofs.WellFormed.{gate-facts}
use Rattle.theory_grammar.proofs.WritingNevers.{pairs-all, pairs-distinct}
use Rattle.theory_grammar.proofs.WritingNames.{gate_name-injective, gate_name-no-input}
use Rattle.theory_grammar.proofs.WritingBlock.{flat-line_gates}

-- ---- limits

lines-sum : (b : Block) (js : List ℕ) → sum (map line_gates (map (flat_line b) js)) ≡ length js
lines-sum b [] = refl
lines-sum b (j ∷ js) = rw (flat-line_gates b j, lines-sum b js) (omega arith)

-- A written block is within the limits.
pub flat_tree-within : (b : Block) → is_well_formed b ≡ true → is_over_limit (flat_tree b) ≡ false
unfolding is_over_limit flat_tree
flat_tree-within b h =
    let w = well_formed-parts b h in
    let e : length (up_to (gate_count b)) ≡ gate_count b = length-tab (λ k. k) (gate_count b) in
    rw (
      le-leb (input_count b) max_inputs w.few_inputs,
      length-map b.nevers (pairs_of b),
      le-leb (never_count b) max_nevers w.few_nevers,
      tab-map (flat_line b) (gate_count b),
      lines-sum b (up_to (gate_count b)),
      e,
      le-leb (gate_count b) max_gates w.few_gates,
      length-map {B = OutputLine} b.outputs
          (λ (o : Output). record { port = o.port; shown = node_name_of b o.node }),
      le-leb (output_count b) max_outputs w.few_outputs,
    )

-- ---- repeated names

abbrev pub name_of : Mention → Name
name_of d = d.name

pub mention-names : {A : Type 0} (printed : A → List ℕ → List ℕ) (in_line : A → ℕ → List Mention) (named : A → Name)
    → ((x : A) (at : ℕ) → map name_of (in_line x at) ≡ named x ∷ []) → (xs : List A) (at : ℕ)
    → map name_of (mentions printed in_line xs at) ≡ map named xs
unfolding mentions
mention-names printed in_line named h [] at = refl
mention-names printed in_line named h (x ∷ xs) at =
    map-append name_of (in_line x at) _
    ∙ rw (h x at, mention-names printed in_line named h xs (at + length (printed x [])))

no-repeat : (ds : List Mention) (before : List Name) → Apart (map name_of ds)
    → ((j : ℕ) → j < length (map name_of ds) → member_list (get_or (map name_of ds) j []) before ≡ false)
    → first_repeat before ds ≡ none
unfolding first_repeat
no-repeat [] before apart fresh = refl
no-repeat (d ∷ ds) before apart fresh =
    rw (fresh 0 (omega arith))
    (no-repeat ds (d.name ∷ before) (λ i j l g. apart (suc i) (suc j) (omega arith) (omega arith))
    (λ j l.
    rw (ne_same (get_or (map name_of ds) j []) d.name (λ q. apart 0 (suc j) (omega arith) (omega arith) (sym q)))
    (fresh (suc j) (omega arith))))

-- the names that a written text declares
unfoldable pub written_names : Block → List Name
written_names b = b.inputs ++ tab gate_name (gate_count b)

written-names : (b : Block) → map name_of (declared_nodes (flat_tree b)) ≡ written_names b
unfolding declared_nodes flat_tree written_names input_mention gate_mention flat_line
written-names b =
    map-append name_of (mentions print_input input_mention b.inputs 0) _
    ∙ ap₂ ◌++◌ (mention-names print_input input_mention (λ x. x) (λ x at. refl) b.inputs 0 ∙ map-id b.inputs)
    (mention-names print_gate gate_mention (λ g. g.name) (λ g at. refl) (tab (flat_line b) (gate_count b)) _
    ∙ map-tab (λ (g : GateLine). g.name) (flat_line b) (gate_count b))

module _ (b : Block) (w : WellFormed b) where
  gates-apart : Apart (tab gate_name (gate_count b))
  gates-apart i j l g e =
      let m : length (tab gate_name (gate_count b)) ≡ gate_count b = length-tab gate_name (gate_count b) in
      let few = w.few_gates in
      let p = get_d-tab gate_name (gate_count b) i [] (omega arith) in
      let q = get_d-tab gate_name (gate_count b) j [] (omega arith) in
      let z = gate_name-injective i j (omega arith) (omega arith) (sym p ∙ e ∙ q) in
      omega arith

  names_apart : Apart (written_names b)
  unfolding written_names
  names_apart =
      apart-append b.inputs (tab gate_name (gate_count b)) (distinct_apart b.inputs w.inputs_distinct) gates-apart
      λ i j l g e.
      let m : length (tab gate_name (gate_count b)) ≡ gate_count b = length-tab gate_name (gate_count b) in
      gate_name-no-input j (get_or b.inputs i []) (all-at is_plain_name b.inputs i [] w.input_names l)
      (e ∙ get_d-tab gate_name (gate_count b) j [] (omega arith))

written-ports : (b : Block) → map name_of (declared_ports (flat_tree b)) ≡ map (λ (o : Output). o.port) b.outputs
unfolding declared_ports flat_tree port_mention
written-ports b =
    mention-names print_output port_mention (λ o. o.port) (λ o at. refl) _ _ ∙ map-map _ _ b.outputs

-- no name stands twice in a written never line
never-apart : (b : Block) (a : Assignment) → distinct b.inputs ≡ true → (at : ℕ)
    → Apart (map name_of (never_mentions (pairs_of b a) at))
unfolding never_mentions pair_mention
never-apart b a names at =
    rw (mention-names print_pair pair_mention (λ p. p.name) (λ p at. refl) (pairs_of b a) (at + 6))
    (distinct_apart (map (λ (p : Pair). p.name) (pairs_of b a)) (pairs-distinct b a names))

nevers-unrepeated : (b : Block) → distinct b.inputs ≡ true → (ns : List Assignment) (at : ℕ)
    → first_repeat_in (map (pairs_of b) ns) at ≡ none
unfolding first_repeat_in or_else
nevers-unrepeated b names [] at = refl
nevers-unrepeated b names (a ∷ ns) at =
    rw (no-repeat (never_mentions (pairs_of b a) at) [] (never-apart b a names at) (λ j l. refl))
    (nevers-unrepeated b names ns (at + length (print_never (pairs_of b a) [])))

-- A written block declares no name and no port twice.
pub flat_tree-unrepeated : (b : Block) → is_well_formed b ≡ true → first_duplicate (flat_tree b) ≡ none
unfolding first_duplicate or_else lesser flat_tree
flat_tree-unrepeated b h =
    let w = well_formed-parts b h in
    let nodes : Apart (map name_of (declared_nodes (flat_tree b))) = rw (written-names b) (names_apart b w) in
    let ports : Apart (map name_of (declared_ports (flat_tree b))) =
    rw (written-ports b) (distinct_apart (map (λ (o : Output). o.port) b.outputs) w.ports_distinct) in
    rw (
      nevers-unrepeated b w.inputs_distinct b.nevers (never_lines_at (flat_tree b)),
      no-repeat (declared_nodes (flat_tree b)) [] nodes (λ j l. refl),
      no-repeat (declared_ports (flat_tree b)) [] ports (λ j l. refl),
    )

-- ---- undeclared names

none-outside : (declared : List Name) (us : List Mention) → all (λ u. member_list u.name declared) us ≡ true
    → first_outside declared us ≡ none
unfolding first_outside
none-outside declared [] h = refl
none-outside declared (u ∷ us) h =
    let f = (and-eq-true_iff (member_list u.name declared) (all (λ u. member_list u.name declared) us)).0 h in
    rw f.0 (none-outside declared us f.1)

module _ (b : Block) (w : WellFormed b) where
  node-declared : (o : Operand) → is_node b o ≡ true → member_list (node_name_of b o) (written_names b) ≡ true
  unfolding node_name_of is_node written_names
  node-declared (input i) h =
      let l = ltb-true i (input_count b) h in
      member_list-from _ (b.inputs ++ tab gate_name (gate_count b)) i
      (omega (arith, length-append b.inputs (tab gate_name (gate_count b))))
      (sym (get_or-append b.inputs (tab gate_name (gate_count b)) [] i l))
  node-declared (gate j) h =
      let l = ltb-true j (gate_count b) h in
      member_list-from _ (b.inputs ++ tab gate_name (gate_count b)) (input_count b + j)
      (omega (arith, length-append b.inputs (tab gate_name (gate_count b)), length-tab gate_name (gate_count b)))
      (sym (get_or-append-add b.inputs (tab gate_name (gate_count b)) j [] ∙ get_d-tab gate_name (gate_count b) j [] l))
  node-declared (constant c) h = absurd (false≢true h)

  abbrev declared : Mention → Bool
  declared u = member_list u.name (written_names b)

  term-declared : (o : Operand) (at : ℕ) → is_operand b o ≡ true → all declared (term_mentions (term_of b o) at) ≡ true
  unfolding term_of term_mentions is_operand
  term-declared (input i) at h = rw (node-declared (input i) h)
  term-declared (gate j) at h = rw (node-declared (gate j) h)
  term-declared (constant c) at h = refl

  terms-declared : (os : List Operand) (at : ℕ) → all (is_operand b) os ≡ true
      → all declared (terms_mentions (terms_of b os) at) ≡ true
  unfolding terms_of terms_mentions
  terms-declared [] at h = refl
  terms-declared (o ∷ os) at h =
      let f = (and-eq-true_iff (is_operand b o) (all (is_operand b) os)).0 h in
      all_append declared (term_mentions (term_of b o) (at + 1)) _
      ∙ rw (term-declared o (at + 1) f.0) (terms-declared os _ f.1)

  lines-declared : (js : List ℕ) (at : ℕ)
      → all declared (mentions print_gate operand_mentions (map (flat_line b) js) at) ≡ true
  unfolding mentions operand_mentions flat_line term_mentions
  lines-declared [] at = refl
  lines-declared (j ∷ js) at =
      all_append declared (operand_mentions (flat_line b j) at) _
      ∙ rw (terms-declared (gate_of b j).operands _ (gate-facts b w j).fit) (lines-declared js _)

  outputs-declared : (os : List Output) (at : ℕ) → all (λ o. is_node b o.node) os ≡ true
      → all declared (mentions print_output shown_mention
      (map (λ (o : Output). record { port = o.port; shown = node_name_of b o.node }) os) at) ≡ true
  unfolding mentions shown_mention
  outputs-declared [] at h = refl
  outputs-declared (o ∷ os) at h =
      let f = (and-eq-true_iff (is_node b o.node) (all (λ o. is_node b o.node) os)).0 h in
      rw (node-declared o.node f.0) (outputs-declared os _ f.1)

  gates-declared : (m at : ℕ) → all declared (mentions print_gate operand_mentions (tab (flat_line b) m) at) ≡ true
  gates-declared m at = rw (tab-map (flat_line b) m) (lines-declared (up_to m) at)

  used-declared : all declared (used_names (flat_tree b)) ≡ true
  unfolding used_names flat_tree
  used-declared =
      all_append declared (mentions print_gate operand_mentions (tab (flat_line b) (gate_count b)) _) _
      ∙ rw (gates-declared (gate_count b)) (outputs-declared b.outputs _ w.nodes_there)

  -- the names in never lines are those of inputs
  abbrev excluded : Mention → Bool
  excluded u = member_list u.name b.inputs

  pairs-excluded : (ps : List Pair) (at : ℕ) → all (λ p. member_list p.name b.inputs) ps ≡ true
      → all excluded (mentions print_pair pair_mention ps at) ≡ true
  unfolding mentions pair_mention
  pairs-excluded [] at h = refl
  pairs-excluded (p ∷ ps) at h =
      let f =
      (and-eq-true_iff (member_list p.name b.inputs) (all (λ p. member_list p.name b.inputs) ps)).0 h in
      rw f.0 (pairs-excluded ps _ f.1)

  nevers-excluded : (ns : List Assignment) (at : ℕ)
      → all excluded (mentions print_never never_mentions (map (pairs_of b) ns) at) ≡ true
  unfolding mentions never_mentions
  nevers-excluded [] at = refl
  nevers-excluded (a ∷ ns) at =
      all_append excluded (never_mentions (pairs_of b a) at) _
      ∙ rw (pairs-excluded (pairs_of b a) _ (pairs-all b a (λ p. member_list p.name b.inputs)
      (λ j l. member_list-from (get_or b.inputs j []) b.inputs j l refl))) (nevers-excluded ns _)

  excluded-inputs : all excluded (excluded_names (flat_tree b)) ≡ true
  unfolding excluded_names flat_tree
  excluded-inputs = nevers-excluded b.nevers _

-- A written block uses no name that it does not declare.
pub flat_tree-declared : (b : Block) → is_well_formed b ≡ true → first_undeclared (flat_tree b) ≡ none
unfolding first_undeclared or_else flat_tree
flat_tree-declared b h =
    let w = well_formed-parts b h in
    rw (none-outside b.inputs (excluded_names (flat_tree b)) (excluded-inputs b w), written-names b)
    (none-outside (written_names b) (used_names (flat_tree b)) (used-declared b w))
