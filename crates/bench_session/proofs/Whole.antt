-- What Read gives is not malformed: the block of a legal tree that is within the limits, declares nothing twice and
-- uses nothing undeclared is well-formed. Assumes nothing.
use Prim.Native.Nat.{ℕ, zero, suc, ◌+◌, ◌≤◌}
use mathlib.Core.Path.{◌≡◌, refl, sym, ap, ap₂, ◌∙◌}
use mathlib.Core.Bool.{Bool, true, false, cond, ◌&&◌, ◌||◌, false≢true, true≢false}
use mathlib.Core.Option.{Option, none, some, some-ne-none}
use mathlib.Core.List.{List, [], ◌∷◌, ◌++◌, map, map-append, map-id, map-map}
use native.Mathlib.Omega.{arith}
use lib.ListN.{length, length-append, length-map}
use borrow.Author.Tests.{lt-ltb}
use Rattle.prelude.specs.Lists.{all, same, member_list, distinct, sum}
use Rattle.prelude.proofs.Tests.{and_left, and_right, and_intro}
use Rattle.prelude.proofs.Quantifiers.{all_append}
use Rattle.prelude.proofs.Same.{same-eq, same_refl}
use Rattle.netlist.specs.Limits.{max_depth}
use Rattle.netlist.specs.Kinds.{is_kind, arity_fits}
use Rattle.netlist.specs.Netlist.{Name, Operand, input, gate, constant, Output, Block, input_count, gate_count}
use Rattle.netlist.specs.StoredBlock.{is_node, is_operand, gate_fits, is_malformed}
use Rattle.netlist.specs.Names.{is_plain_name, is_node_name}
use Rattle.netlist.specs.Syntax.{Term, Terms, name, literal, apply, nil, cons, GateLine, OutputLine, Pair, Tree}
use Rattle.netlist.specs.Syntax.{print_input, print_pair, print_never, print_gate}
use Rattle.netlist.specs.Syntax.{print_output, term_count, is_legal_never, is_legal_term, is_legal_terms, is_legal_gate}
use Rattle.netlist.specs.Syntax.{is_legal_output, is_legal_tree}
use Rattle.netlist.specs.Reading.{gates_in, gates_inside, line_gates, is_over_limit, Mention, mentions, input_mention}
use Rattle.netlist.specs.Reading.{gate_mention, port_mention, shown_mention}
use Rattle.netlist.specs.Reading.{term_mentions, terms_mentions, operand_mentions, gate_lines_at, output_lines_at}
use Rattle.netlist.specs.Reading.{declared_nodes, declared_ports, used_names}
use Rattle.netlist.specs.Reading.{first_repeat, or_else, first_duplicate, first_outside, first_undeclared, Binding}
use Rattle.netlist.specs.Reading.{input_bindings, gate_bindings, bindings}
use Rattle.netlist.specs.Reading.{never_lines_at, pair_mention, never_mentions, excluded_names, lesser, assignment_of}
use Rattle.netlist.specs.Reading.{lookup, term_node, terms_nodes, term_gates, terms_gates, lines_gates, block_of}
use Rattle.netlist.specs.Answers.{done}
use Rattle.netlist.specs.Operations.{read_text}
use Rattle.theory_encoding.proofs.WellFormed.{WellFormed, well_formed-from}
use Rattle.theory_encoding.proofs.RoundTrip.{encode-whole}
use Rattle.theory_encoding.proofs.ListFacts.{and_parts, all-and, all_map}
use Rattle.theory_grammar.proofs.Sound.{parse-sound}
use Rattle.theory_grammar.proofs.WritingRefusals.{name_of, mention-names}
use Rattle.theory_grammar.proofs.Limits.{limits-within}
use Rattle.bench_session.proofs.ReadBlocks.{read-accepted}
use Rattle.bench_session.proofs.ReadNevers.{nevers-fit}

-- ---- nothing twice

-- a name given before is not given again
not-again : (ds : List Mention) (before : List Name) (x : Name) → first_repeat before ds ≡ none
    → member_list x before ≡ true
    → member_list x (map name_of ds) ≡ false
unfolding first_repeat
not-again [] before x e m = refl
not-again (d ∷ ds) before x e m =
    go (not-again ds (d.name ∷ before) x) (member_list d.name before) (same x d.name) refl refl e
  where
    go : (first_repeat (d.name ∷ before) ds ≡ none → member_list x (d.name ∷ before) ≡ true
        → member_list x (map name_of ds) ≡ false)
        → (t s : Bool) → member_list d.name before ≡ t → same x d.name ≡ s
        → cond t (some d.place) (first_repeat (d.name ∷ before) ds) ≡ none
        → same x d.name || member_list x (map name_of ds) ≡ false
    go rec true s et es h = absurd (some-ne-none _ h)
    go rec false true et es h =
        absurd (true≢false (sym m ∙ ap (λ (y : Name). member_list y before) (same-eq x d.name es) ∙ et))
    go rec false false et es h = rw es (rec h (rw es m))

pub no-repeat-distinct : (ds : List Mention) (before : List Name) → first_repeat before ds ≡ none
    → distinct (map name_of ds) ≡ true
unfolding first_repeat
no-repeat-distinct [] before e = refl
no-repeat-distinct (d ∷ ds) before e =
    go (no-repeat-distinct ds (d.name ∷ before)) (member_list d.name before) refl e
  where
    go : (first_repeat (d.name ∷ before) ds ≡ none → distinct (map name_of ds) ≡ true)
        → (t : Bool) → member_list d.name before ≡ t
        → cond t (some d.place) (first_repeat (d.name ∷ before) ds) ≡ none
        → distinct (map name_of (d ∷ ds)) ≡ true
    go rec true et h = absurd (some-ne-none _ h)
    go rec false et h = rw (not-again ds (d.name ∷ before) d.name h (rw (same_refl d.name) refl)) (rec h)

-- what stands in front is not given twice either
front-unrepeated : (ds es : List Mention) (before : List Name) → first_repeat before (ds ++ es) ≡ none
    → first_repeat before ds ≡ none
unfolding first_repeat
front-unrepeated [] es before e = refl
front-unrepeated (d ∷ ds) es before e =
    go (front-unrepeated ds es (d.name ∷ before)) (member_list d.name before) refl e
  where
    go : (first_repeat (d.name ∷ before) (ds ++ es) ≡ none → first_repeat (d.name ∷ before) ds ≡ none)
        → (t : Bool) → member_list d.name before ≡ t
        → cond t (some d.place) (first_repeat (d.name ∷ before) (ds ++ es)) ≡ none
        → cond (member_list d.name before) (some d.place) (first_repeat (d.name ∷ before) ds) ≡ none
    go rec true et h = absurd (some-ne-none _ h)
    go rec false et h = rw et (rec h)

or_else_none : (a b : Option ℕ) → or_else a b ≡ none → (a ≡ none) × (b ≡ none)
unfolding or_else
or_else_none none b e = (refl, e)
or_else_none (some p) b e = absurd (some-ne-none _ e)

lesser-none : (a b : Option ℕ) → lesser a b ≡ none → (a ≡ none) × (b ≡ none)
unfolding lesser
lesser-none none b e = (refl, e)
lesser-none (some p) none e = absurd (some-ne-none _ e)
lesser-none (some p) (some q) e = absurd (some-ne-none _ e)

module _ (t : Tree) (unrepeated : first_duplicate t ≡ none) where
  declared-once : or_else (first_repeat [] (declared_nodes t)) (first_repeat [] (declared_ports t)) ≡ none
  unfolding first_duplicate
  declared-once = (lesser-none _ _ unrepeated).1

  inputs-distinct : distinct t.inputs ≡ true
  unfolding declared_nodes input_mention
  inputs-distinct =
      let e = (or_else_none _ _ declared-once).0 in
      let f = front-unrepeated (mentions print_input input_mention t.inputs 0) _ [] e in
      let named : map name_of (mentions print_input input_mention t.inputs 0) ≡ map (λ x. x) t.inputs =
      mention-names print_input input_mention (λ x. x) (λ x at. refl) t.inputs 0 in
      rw (named, map-id) at (no-repeat-distinct _ [] f)

  ports-distinct : distinct (map (λ (o : OutputLine). o.port) t.outputs) ≡ true
  unfolding declared_ports port_mention
  ports-distinct =
      let e = (or_else_none _ _ declared-once).1 in
      let named : map name_of (mentions print_output port_mention t.outputs (output_lines_at t))
      ≡ map (λ (o : OutputLine). o.port) t.outputs =
      mention-names print_output port_mention (λ o. o.port) (λ o at. refl) t.outputs (output_lines_at t) in
      rw named at (no-repeat-distinct _ [] e)

-- ---- every name stands for a node

module _ (b : Block) where
  BoundThere : List Binding → Type 0
  BoundThere bs = all (λ (x : Binding). is_node b x.node) bs ≡ true

  inputs-there : (ss : List Name) (i : ℕ) → i + length ss ≤ input_count b → BoundThere (input_bindings ss i)
  unfolding BoundThere input_bindings is_node
  inputs-there [] i h = refl
  inputs-there (s ∷ ss) i h = rw (lt-ltb i (input_count b) (omega arith)) (inputs-there ss (suc i) (omega arith))

  gates-there : (gs : List GateLine) (first : ℕ) → first + sum (map line_gates gs) ≤ gate_count b
      → BoundThere (gate_bindings gs first)
  unfolding BoundThere gate_bindings is_node line_gates
  gates-there [] first h = refl
  gates-there (g ∷ gs) first h =
      rw (lt-ltb (first + gates_inside g.terms) (gate_count b) (omega arith))
      (gates-there gs (first + suc (gates_inside g.terms)) (omega arith))

  lookup-there : (bs : List Binding) (s : Name) → member_list s (map (λ (x : Binding). x.name) bs) ≡ true
      → BoundThere bs → is_node b (lookup bs s) ≡ true
  unfolding BoundThere lookup
  lookup-there [] s m h = absurd (false≢true m)
  lookup-there (x ∷ xs) s m h =
      let p = and_parts (is_node b x.node) (all (λ (y : Binding). is_node b y.node) xs) h in
      go (lookup-there xs s) (same s x.name) m p.0 p.1
    where
      go : (member_list s (map (λ (y : Binding). y.name) xs) ≡ true
          → all (λ (y : Binding). is_node b y.node) xs ≡ true → is_node b (lookup xs s) ≡ true)
          → (t : Bool) → t || member_list s (map (λ (y : Binding). y.name) xs) ≡ true → is_node b x.node ≡ true
          → all (λ (y : Binding). is_node b y.node) xs ≡ true → is_node b (cond t x.node (lookup xs s)) ≡ true
      go rec true m e f = e
      go rec false m e f = rec m f

  node-operand : (o : Operand) → is_node b o ≡ true → is_operand b o ≡ true
  unfolding is_node is_operand
  node-operand (input i) h = h
  node-operand (gate j) h = h
  node-operand (constant c) h = refl

-- ---- every gate fits

-- every name that is used is among these
Known : List Name → List Mention → Type 0
Known declared us = all (λ (u : Mention). member_list u.name declared) us ≡ true

all_known : (declared : List Name) (us : List Mention) → first_outside declared us ≡ none → Known declared us
unfolding Known first_outside
all_known declared [] e = refl
all_known declared (u ∷ us) e = go (member_list u.name declared) (all_known declared us) e
  where
    go : (t : Bool) → (first_outside declared us ≡ none → all (λ (v : Mention). member_list v.name declared) us ≡ true)
        → cond t (first_outside declared us) (some u.place) ≡ none
        → t && all (λ (v : Mention). member_list v.name declared) us ≡ true
    go true rec h = rec h
    go false rec h = absurd (some-ne-none _ h)

known-parts : (declared : List Name) (us vs : List Mention) → Known declared (us ++ vs)
    → Known declared us × Known declared vs
unfolding Known
known-parts declared us vs h =
    let p : Mention → Bool = λ u. member_list u.name declared in
    and_parts (all p us) (all p vs) (sym (all_append p us vs) ∙ h)

-- the names in never lines, pair by pair
module _ (inputs : List Name) where
  pair-names : (ps : List Pair) (at : ℕ) → Known inputs (mentions print_pair pair_mention ps at)
      → all (λ (p : Pair). member_list p.name inputs) ps ≡ true
  unfolding Known mentions pair_mention
  pair-names [] at k = refl
  pair-names (p ∷ ps) at k =
      let h = known-parts inputs (pair_mention p at) (mentions print_pair pair_mention ps (at + length (print_pair p [])))
      k in
      and_intro _ _ (and_left (member_list p.name inputs) true h.0)
      (pair-names ps (at + length (print_pair p [])) h.1)

  never-names : (ns : List (List Pair)) (at : ℕ) → Known inputs (mentions print_never never_mentions ns at)
      → all (all (λ (p : Pair). member_list p.name inputs)) ns ≡ true
  unfolding mentions never_mentions
  never-names [] at k = refl
  never-names (ps ∷ ns) at k =
      let h = known-parts inputs (never_mentions ps at)
      (mentions print_never never_mentions ns (at + length (print_never ps []))) k in
      and_intro _ _ (pair-names ps _ h.0) (never-names ns (at + length (print_never ps [])) h.1)

module _ (b : Block) (names : List Binding) (there : BoundThere b names) where
  abbrev Declares : List Mention → Type 0
  Declares = Known (map (λ (x : Binding). x.name) names)

  term-operand : (t : Term) (at first : ℕ) → Declares (term_mentions t at) → first + gates_in t ≤ gate_count b
      → is_operand b (term_node t names first) ≡ true
  unfolding Known term_mentions term_node gates_in is_operand is_node
  term-operand (name s) at first k h =
      node-operand b (lookup names s) (lookup-there b names s (and_left _ true k) there)
  term-operand (literal v) at first k h = refl
  term-operand (apply kind ts) at first k h = lt-ltb (first + gates_inside ts) (gate_count b) (omega arith)

  terms-operands : (ts : Terms) (at first : ℕ) → Declares (terms_mentions ts at) → first + gates_inside ts ≤ gate_count b
      → all (is_operand b) (terms_nodes ts names first) ≡ true
  unfolding terms_mentions terms_nodes gates_inside
  terms-operands nil at first k h = refl
  terms-operands (cons t ts) at first k h =
      let p = known-parts _ _ _ k in
      and_intro _ _ (term-operand t _ first p.0 (omega arith))
      (terms-operands ts _ (first + gates_in t) p.1 (omega arith))

  nodes-count : (ts : Terms) (first : ℕ) → length (terms_nodes ts names first) ≡ term_count ts
  unfolding terms_nodes term_count
  nodes-count nil first = refl
  nodes-count (cons t ts) first = ap suc (nodes-count ts (first + gates_in t))

  mutual
    unfolding term_mentions terms_mentions term_gates terms_gates gates_in gates_inside is_legal_term is_legal_terms gate_fits

    term_fits : (t : Term) (depth at first : ℕ) → is_legal_term t depth ≡ true → Declares (term_mentions t at)
        → first + gates_in t ≤ gate_count b
        → all (gate_fits b) (term_gates t names first) ≡ true
    term_fits (name s) depth at first l k h = refl
    term_fits (literal v) depth at first l k h = refl
    term_fits (apply kind ts) zero at first l k h = absurd (false≢true l)
    term_fits (apply kind ts) (suc depth) at first l k h =
        let legal = and_parts (is_kind kind && arity_fits kind (term_count ts)) (is_legal_terms ts depth) l in
        let inner = terms-fit ts depth _ first legal.1 k (omega arith) in
        let own = terms-operands ts _ first k (omega arith) in
        all_append (gate_fits b) (terms_gates ts names first)
        (record { kind = kind; operands = terms_nodes ts names first } ∷ [])
        ∙ rw (inner, nodes-count ts first, legal.0, own) refl

    terms-fit : (ts : Terms) (depth at first : ℕ) → is_legal_terms ts depth ≡ true → Declares (terms_mentions ts at)
        → first + gates_inside ts ≤ gate_count b
        → all (gate_fits b) (terms_gates ts names first) ≡ true
    terms-fit nil depth at first l k h = refl
    terms-fit (cons t ts) depth at first l k h =
        let p = known-parts _ _ _ k in
        let q = and_parts (is_legal_term t depth) (is_legal_terms ts depth) l in
        all_append (gate_fits b) (term_gates t names first) (terms_gates ts names (first + gates_in t))
        ∙ and_intro _ _ (term_fits t depth _ first q.0 p.0 (omega arith))
        (terms-fit ts depth _ (first + gates_in t) q.1 p.1 (omega arith))

  line-fits : (gs : List GateLine) (at first : ℕ) → all is_legal_gate gs ≡ true
      → Declares (mentions print_gate operand_mentions gs at)
      → first + sum (map line_gates gs) ≤ gate_count b → all (gate_fits b) (lines_gates gs names first) ≡ true
  unfolding mentions operand_mentions lines_gates line_gates is_legal_gate gates_in
  line-fits [] at first l k h = refl
  line-fits (g ∷ gs) at first l k h =
      let p = known-parts _ _ _ k in
      let q = and_parts (is_legal_gate g) (all is_legal_gate gs) l in
      let term = and_right (is_node_name g.name) (is_legal_term (apply g.kind g.terms) max_depth) q.0 in
      all_append (gate_fits b) (term_gates (apply g.kind g.terms) names first)
      (lines_gates gs names (first + line_gates g))
      ∙ and_intro _ _ (term_fits (apply g.kind g.terms) max_depth _ first term p.0 (omega arith))
      (line-fits gs _ (first + line_gates g) q.1 p.1 (omega arith))

  shown-there : (os : List OutputLine) (at : ℕ) → Declares (mentions print_output shown_mention os at)
      → all (λ (o : OutputLine). is_node b (lookup names o.shown)) os ≡ true
  unfolding mentions shown_mention Known
  shown-there [] at k = refl
  shown-there (o ∷ os) at k =
      let p = known-parts (map (λ (x : Binding). x.name) names) (shown_mention o at)
      (mentions print_output shown_mention os (at + length (print_output o [])))
      k in
      and_intro _ _ (lookup-there b names o.shown (and_left _ true p.0) there)
      (shown-there os (at + length (print_output o [])) p.1)

-- ---- the number of gates

mutual
  unfolding term_gates terms_gates gates_in gates_inside

  gates-count : (t : Term) (names : List Binding) (first : ℕ) → length (term_gates t names first) ≡ gates_in t
  gates-count (name s) names first = refl
  gates-count (literal v) names first = refl
  gates-count (apply k ts) names first =
      omega (
        arith,
        gates-counts ts names first,
        length-append (terms_gates ts names first) (record { kind = k; operands = terms_nodes ts names first } ∷ []),
      )

  gates-counts : (ts : Terms) (names : List Binding) (first : ℕ) → length (terms_gates ts names first) ≡ gates_inside ts
  gates-counts nil names first = refl
  gates-counts (cons t ts) names first =
      omega (
        arith,
        gates-count t names first,
        gates-counts ts names (first + gates_in t),
        length-append (term_gates t names first) (terms_gates ts names (first + gates_in t)),
      )

lines-count : (gs : List GateLine) (names : List Binding) (first : ℕ)
    → length (lines_gates gs names first) ≡ sum (map line_gates gs)
unfolding lines_gates line_gates gates_in
lines-count [] names first = refl
lines-count (g ∷ gs) names first =
    length-append (term_gates (apply g.kind g.terms) names first) (lines_gates gs names (first + line_gates g))
    ∙ ap₂ (λ (a b : ℕ). a + b) (gates-count (apply g.kind g.terms) names first)
    (lines-count gs names (first + line_gates g))

-- ---- the names that are bound are those that are declared

bound-inputs : (ss : List Name) (i : ℕ) → map (λ (x : Binding). x.name) (input_bindings ss i) ≡ ss
unfolding input_bindings
bound-inputs [] i = refl
bound-inputs (s ∷ ss) i = ap (λ (l : List Name). s ∷ l) (bound-inputs ss (suc i))

bound-gates : (gs : List GateLine) (first : ℕ)
    → map (λ (x : Binding). x.name) (gate_bindings gs first) ≡ map (λ (g : GateLine). g.name) gs
unfolding gate_bindings
bound-gates [] first = refl
bound-gates (g ∷ gs) first = ap (λ (l : List Name). g.name ∷ l) (bound-gates gs _)

bound-names : (t : Tree) → map (λ (x : Binding). x.name) (bindings t) ≡ map name_of (declared_nodes t)
unfolding bindings declared_nodes input_mention gate_mention
bound-names t =
    map-append (λ (x : Binding). x.name) (input_bindings t.inputs 0) (gate_bindings t.gates 0)
    ∙ ap₂ ◌++◌ (bound-inputs t.inputs 0
    ∙ sym (mention-names print_input input_mention (λ x. x) (λ x at. refl) t.inputs 0 ∙ map-id t.inputs))
    (bound-gates t.gates 0 ∙ sym (mention-names print_gate gate_mention (λ g. g.name) (λ g at. refl) t.gates
    (gate_lines_at t)))
    ∙ sym (map-append name_of (mentions print_input input_mention t.inputs 0)
    (mentions print_gate gate_mention t.gates (gate_lines_at t)))

-- ---- the theorem

module _ (t : Tree) (legal : is_legal_tree t ≡ true) (within : is_over_limit t ≡ false)
    (unrepeated : first_duplicate t ≡ none)
    (declared : first_undeclared t ≡ none) where
  -- the lines are legal, sort by sort
  record Legal : Type 0 where
    inputs : all is_plain_name t.inputs ≡ true
    nevers : all is_legal_never t.nevers ≡ true
    gates : all is_legal_gate t.gates ≡ true
    ports : all (λ (o : OutputLine). is_plain_name o.port) t.outputs ≡ true

  lines : Legal
  unfolding is_legal_tree is_legal_output
  lines =
      let i = all is_plain_name t.inputs in
      let n = all is_legal_never t.nevers in
      let g = all is_legal_gate t.gates in
      let e = and_parts (i && n && g) (all is_legal_output t.outputs) legal in
      let d = and_parts (i && n) g e.0 in
      let c = and_parts i n d.0 in
      let named : OutputLine → Bool = λ o. is_plain_name o.port in
      let shows : OutputLine → Bool = λ o. is_node_name o.shown in
      let ports = and_left (all named t.outputs) (all shows t.outputs)
      (sym (all-and named shows t.outputs) ∙ e.1) in
      record { inputs = c.0; nevers = c.1; gates = d.1; ports = ports }

  count-is : gate_count (block_of t) ≡ sum (map line_gates t.gates)
  unfolding block_of
  count-is = lines-count t.gates (bindings t) 0

  bound-there : BoundThere (block_of t) (bindings t)
  unfolding bindings BoundThere block_of
  bound-there =
      let p : Binding → Bool = λ x. is_node (block_of t) x.node in
      all_append p (input_bindings t.inputs 0) (gate_bindings t.gates 0)
      ∙ and_intro _ _ (inputs-there (block_of t) t.inputs 0 (omega arith))
      (gates-there (block_of t) t.gates 0 (omega (arith, count-is)))

  uses-known : Known (map (λ (x : Binding). x.name) (bindings t)) (used_names t)
  unfolding first_undeclared
  uses-known =
      rw (bound-names t) (all_known (map name_of (declared_nodes t)) (used_names t) (or_else_none _ _ declared).1)

  nevers-known : all (all (λ (p : Pair). member_list p.name t.inputs)) t.nevers ≡ true
  unfolding first_undeclared excluded_names
  nevers-known =
      never-names t.inputs t.nevers (never_lines_at t)
      (all_known t.inputs (excluded_names t) (or_else_none _ _ declared).0)

  pub block-well_formed : WellFormed (block_of t)
  unfolding block_of used_names Known
  block-well_formed =
      let w = limits-within t within in
      let k = known-parts (map (λ (x : Binding). x.name) (bindings t))
      (mentions print_gate operand_mentions t.gates (gate_lines_at t))
      (mentions print_output shown_mention t.outputs (output_lines_at t)) uses-known in
      record {
        few_inputs = w.inputs;
        few_gates = omega (arith, w.gates, count-is);
        few_outputs =
            omega (
              arith,
              w.outputs,
              length-map {B = Output} t.outputs
                  (λ (o : OutputLine). record { port = o.port; node = lookup (bindings t) o.shown }),
            );
        few_nevers = omega (arith, w.nevers, length-map t.nevers (assignment_of t.inputs));
        input_names = lines.inputs;
        inputs_distinct = inputs-distinct t unrepeated;
        nevers_fit = nevers-fit (block_of t) t.nevers lines.nevers nevers-known;
        gates_fit =
            line-fits (block_of t) (bindings t) bound-there t.gates _ 0 lines.gates k.0
            (omega (arith, count-is));
        port_names = all_map _ _ t.outputs ∙ lines.ports;
        ports_distinct = ap distinct (map-map _ _ t.outputs) ∙ ports-distinct t unrepeated;
        nodes_there = all_map _ _ t.outputs ∙ shown-there (block_of t) (bindings t) bound-there t.outputs _ k.1;
      }

-- What Read gives is not malformed.
pub read_whole : (text ws : List ℕ) (count detail : ℕ) → read_text text ≡ done ws count detail → is_malformed ws ≡ false
read_whole text ws count detail e =
    let a = read-accepted text ws count detail e in
    let legal = (parse-sound text a.tree a.rest a.parsed).1 in
    rw a.words (encode-whole (block_of a.tree)
    (well_formed-from (block_of a.tree) (block-well_formed a.tree legal a.within a.unrepeated a.declared)))
