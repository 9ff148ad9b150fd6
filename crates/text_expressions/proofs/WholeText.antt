-- A whole text: where the readers of its gates and outputs start, the table that they are lent, and what they have done
-- together.
-- Assumes nothing.
use mathlib.Core.Path.{◌≡◌, refl, sym, ap, ◌∙◌}
use mathlib.Core.Bool.{true}
use mathlib.Core.List.{List, [], ◌∷◌, ◌++◌, map, map-append, map-map}
use Prim.Native.Nat.{ℕ, suc, ◌+◌, ◌-◌, ◌*◌, ◌≤◌}
use native.Mathlib.Omega.{arith}
use Rattle.std.specs.declared.option.Option.{Option}
use Rattle.std.specs.declared.option.Option.TheVariants.{None}
use lib.ListN.{length, take, drop, length-map, length-append, take-append-drop}
use lib.Seq.{take-take, take_at}
use Rattle.prelude.specs.Lists.{all}
use Rattle.prelude.proofs.Tests.{and_left, and_right, and_intro}
use Rattle.prelude.proofs.Quantifiers.{all_append}
use Rattle.prelude.proofs.Elements.{rest-is-drop}
use Rattle.theory_grammar.proofs.WritingTree.{plain-node}
use Rattle.netlist.specs.Limits.{max_inputs, max_gates, max_outputs, max_depth}
use Rattle.netlist.specs.Netlist.{Name}
use Rattle.netlist.specs.StoredBlock.{node_word}
use Rattle.netlist.specs.Names.{is_plain_name, is_node_name}
use Rattle.netlist.specs.Syntax.{GateLine, Tree, apply, print_gate, print_output, print_lines, is_legal_term, is_legal_gate}
use Rattle.netlist.specs.Syntax.{is_legal_tree}
use Rattle.netlist.specs.Reading.{Mention, Binding, line_gates, input_bindings, gate_bindings, bindings, declared_nodes}
use Rattle.netlist.specs.Reading.{declared_ports, gate_lines_at, output_lines_at}
use Rattle.theory_grammar.proofs.Shorter.{Ending, ending}
use Rattle.theory_grammar.proofs.Places.{gates-at, outputs-at, print-measure}
use Rattle.text_names.specs.Packed.{packed}
use Rattle.text_lines.specs.declared.counts.Counts.{Counts}
use Rattle.text_lines.specs.Counting.{tree_counts}
use Rattle.text_symbols.specs.Results.{declared, packed_names, node_words}
use Rattle.text_lines.proofs.TreeLines.{legal-parts}
use Rattle.theory_grammar.proofs.Limits.{WithinLimits, limits-within}
use Rattle.text_lines.proofs.TreeCounts.{named-le}
use Rattle.text_symbols.proofs.TreeTable.{bindings-length}
use Rattle.text_symbols.proofs.TreeSearch.{bound-names, nodes-length}
use Rattle.text_expressions.specs.Walk.{Table, declared_names}
use Rattle.text_expressions.specs.Lines.{gate_form, output_form, lines_cost, LinesAt, LinesHere, LinesDone}
use Rattle.text_expressions.specs.Lines.{LinesRead}
use Rattle.text_expressions.specs.declared.Walked.{Walked}
use Rattle.text_expressions.proofs.ListFacts.{sum_ones}
use Rattle.text_expressions.specs.Resolution.{TreeAt}

-- ---- the table

inputs-named : (ss : List Name) (k : ℕ) → all is_plain_name ss ≡ true
    → all is_node_name (declared_names (input_bindings ss k)) ≡ true
unfolding declared_names input_bindings
inputs-named [] k h = refl
inputs-named (s ∷ ss) k h =
    and_intro (is_node_name s) (all is_node_name (declared_names (input_bindings ss (suc k))))
    (plain-node s (and_left (is_plain_name s) (all is_plain_name ss) h))
    (inputs-named ss (suc k) (and_right (is_plain_name s) (all is_plain_name ss) h))

gates-named : (gs : List GateLine) (first : ℕ) → all is_legal_gate gs ≡ true
    → all is_node_name (declared_names (gate_bindings gs first)) ≡ true
unfolding declared_names gate_bindings is_legal_gate
gates-named [] first h = refl
gates-named (g ∷ gs) first h =
    and_intro (is_node_name g.name) (all is_node_name (declared_names (gate_bindings gs (first + line_gates g))))
    (and_left (is_node_name g.name) (is_legal_term (apply g.kind g.terms) max_depth)
    (and_left (is_legal_gate g) (all is_legal_gate gs) h))
    (gates-named gs (first + line_gates g) (and_right (is_legal_gate g) (all is_legal_gate gs) h))

nodes-named : (t : Tree) → is_legal_tree t ≡ true → all is_node_name (declared_names (bindings t)) ≡ true
unfolding declared_names bindings
nodes-named t h =
    let p = legal-parts t h in
    rw (
      map-append (λ (b : Binding). b.name) (input_bindings t.inputs 0) (gate_bindings t.gates 0),
      all_append is_node_name (declared_names (input_bindings t.inputs 0)) (declared_names (gate_bindings t.gates 0)),
    )
    (and_intro (all is_node_name (declared_names (input_bindings t.inputs 0)))
    (all is_node_name (declared_names (gate_bindings t.gates 0)))
    (inputs-named t.inputs 0 p.inputs) (gates-named t.gates 0 p.gates))

module _ {t : Tree} {text : List ℕ} {end : ℕ} {c : Counts} {names words : List ℕ} (w : TreeAt t text end c names words)
  where
    node-count : c.inputs + c.named ≡ length (declared_nodes t)
    unfolding tree_counts
    node-count = rw w.counted (sym (nodes-length t))

    pub input-count : c.inputs ≡ length t.inputs
    unfolding tree_counts
    input-count = ap (λ (d : Counts). d.inputs) w.counted

    gate-count : c.named ≡ length t.gates
    unfolding tree_counts
    gate-count = ap (λ (d : Counts). d.named) w.counted

    output-count : c.outputs ≡ length t.outputs
    unfolding tree_counts
    output-count = ap (λ (d : Counts). d.outputs) w.counted

    numbers : take (c.inputs + c.named) names ≡ map (λ (b : Binding). packed b.name) (bindings t)
    unfolding declared packed_names
    numbers =
        let f : Mention → ℕ = λ d. packed d.name in
        let l = length-append (declared_nodes t) (declared_ports t) in
        let h : length (declared_nodes t) ≤ length (declared t) = omega arith in
        rw node-count
        (sym (take-take (length (declared_nodes t)) (length (declared t)) names h)
        ∙ ap (take (length (declared_nodes t))) (w.numbers_are ∙ map-append f (declared_nodes t) (declared_ports t))
        ∙ take_at (map f (declared_nodes t)) (map f (declared_ports t)) (length (declared_nodes t))
        (length-map (declared_nodes t) f)
        ∙ sym (map-map packed (λ (d : Mention). d.name) (declared_nodes t)) ∙ ap (map packed) (sym (bound-names t))
        ∙ map-map packed (λ (b : Binding). b.name) (bindings t))

    node-values : take (c.inputs + c.named) words ≡ map (λ (b : Binding). node_word (length t.inputs) b.node)
        (bindings t)
    unfolding node_words
    node-values =
        let e : c.inputs + c.named ≡ length (bindings t) = omega
        (arith, input-count, gate-count, bindings-length w.is) in
        rw e w.nodes_are

    -- the table that is lent
    pub node-table : Table c.inputs (bindings t) (take (c.inputs + c.named) names)
        (take (c.inputs + c.named) words)
    node-table =
        record {
          legal = nodes-named t w.is.legal;
          packed_names = sym numbers;
          node_words = ap (λ k. map (λ (b : Binding). node_word k b.node) (bindings t)) input-count ∙ sym node-values;
        }

    -- as many numbers and node numbers as nodes
    pub numbers-length : c.inputs + c.named ≡ length (take (c.inputs + c.named) names)
    numbers-length =
        omega (
          arith,
          input-count,
          gate-count,
          bindings-length w.is,
          ap length numbers,
          length-map (bindings t)
              (λ (b : Binding). packed b.name),
        )

    pub values_length : c.inputs + c.named ≡ length (take (c.inputs + c.named) words)
    values_length =
        omega (
          arith,
          input-count,
          gate-count,
          bindings-length w.is,
          ap length node-values,
          length-map (bindings t) (λ (b : Binding). node_word (length t.inputs) b.node),
        )

    -- ---- where the lines of each form stand

    abbrev pub outputs_text : List ℕ
    outputs_text = print_lines print_output t.outputs []

    abbrev pub gates_text : List ℕ
    gates_text = print_lines print_gate t.gates outputs_text

    gates-lines : LinesAt gate_form t.gates outputs_text gates_text
    unfolding gate_form
    gates-lines = record { legal = (legal-parts t w.is.legal).gates; printed = refl }

    outputs-lines : LinesAt output_form t.outputs [] outputs_text
    unfolding output_form
    outputs-lines = record { legal = (legal-parts t w.is.legal).outputs; printed = refl }

    -- the gate lines stand at their place
    pub end-inside : end ≤ length text
    unfolding output_lines_at
    end-inside = omega (arith, w.from, print-measure t, ap length w.is.printed)

    abbrev pub rest_from : List ℕ
    rest_from = take (length text - end) (drop end text)

    gates-rest : rest_from ≡ gates_text
    gates-rest = rest-is-drop text end ∙ rw (w.from, ← w.is.printed) (gates-at t)

    -- and the output lines at the end
    pub outputs-end : Ending outputs_text text
    outputs-end =
        let front = take (output_lines_at t) text in
        ending front outputs_text text
        (ap (λ (r : List ℕ). front ++ r) (sym (rw w.is.printed at (outputs-at t))) ∙ take-append-drop
        (output_lines_at t) text)

    pub limits : WithinLimits t
    limits = limits-within t w.within

    pub nodes-few : c.inputs + c.named ≤ max_inputs + max_gates
    nodes-few = omega (arith, input-count, gate-count, limits.inputs, limits.gates, named-le t.gates)

    -- ---- what the readers may assume

    abbrev pub rest : ℕ → List ℕ
    rest left = take (length text - (length text - left)) (drop (length text - left) text)

    rest-is : (left : ℕ) (u : List ℕ) → left ≡ length u → Ending u text → rest left ≡ u
    rest-is left u e h = rest-is-drop text (length text - left) ∙ rw e h.dropped

    abbrev pub nodes : ℕ
    nodes = c.inputs + c.named

    pub gates-here : (gates : List ℕ) → 5 * max_gates ≤ length gates
        → LinesHere gate_form max_gates c.named rest_from c.inputs (take nodes names) (take nodes words) gates
    unfolding lines_cost gate_form
    gates-here gates r =
        record {
          bindings = bindings t;
          lines = t.gates;
          rest = outputs_text;
          table = node-table;
          here = rw gates-rest gates-lines;
          counted = sym gate-count;
          few = limits.gates;
          inputs = omega (arith, limits.inputs, input-count);
          room = r;
        }

    pub outputs-here : (left : ℕ) (outputs : List ℕ) → left ≡ length outputs_text → 5 * max_outputs ≤ length outputs
        → LinesHere output_form max_outputs c.outputs (rest left) c.inputs (take nodes names) (take nodes words)
        outputs
    unfolding lines_cost output_form
    outputs-here left outputs e r =
        record {
          bindings = bindings t;
          lines = t.outputs;
          rest = [];
          table = node-table;
          here = rw (rest-is left outputs_text e outputs-end) outputs-lines;
          counted = sym output-count;
          few = omega (arith, sum_ones t.outputs, limits.outputs);
          inputs = omega (arith, limits.inputs, input-count);
          room = r;
        }

    -- ---- what they have done

    pub gates-done : (gates gates' : List ℕ) (walked : Walked)
        → LinesRead gate_form c.named rest_from c.inputs (take nodes names) (take nodes words) None gates gates' walked
        → LinesDone gate_form c.inputs (bindings t) t.gates (gate_lines_at t) gates_text outputs_text 0 None gates
        gates'
        walked
    gates-done gates gates' walked r =
        let r' = rw gates-rest at r in
        r'.done (bindings t) t.gates outputs_text (gate_lines_at t) node-table gates-lines (sym gate-count)

    pub outputs-done : (left : ℕ) (seen : Option ℕ) (outputs outputs' : List ℕ) (last : Walked) → left ≡ length
        outputs_text
        → LinesRead output_form c.outputs (rest left) c.inputs (take nodes names) (take nodes words) seen outputs
        outputs' last
        → LinesDone output_form c.inputs (bindings t) t.outputs (output_lines_at t) outputs_text [] 0 seen outputs
        outputs' last
    outputs-done left seen outputs outputs' last e r =
        let r' = rw (rest-is left outputs_text e outputs-end) at r in
        r'.done (bindings t) t.outputs [] (output_lines_at t) node-table outputs-lines (sym output-count)
