-- Searches in the tables of a tree: the earliest repeated declaration, and the node that a name stands for. Assumes
-- nothing.
use Prim.Native.Nat.{ℕ, suc, ◌+◌, ◌-◌, ◌≤◌, ◌<◌}
use mathlib.Core.Path.{◌≡◌, refl, sym, ap, ap₂, ◌∙◌}
use mathlib.Core.Bool.{Bool, true}
use mathlib.Core.List.{List, [], ◌∷◌, ◌++◌, map, map-append, map-map}
use mathlib.Core.Option.{none}
use native.Mathlib.Omega.{arith}
use lib.ListN.{length, get_or, take, drop, length-map, length-append}
use lib.Seq.{take_at, drop_at, take-add, get_or-take, get_or-drop, length-take-le}
use lib.Dec.{ltb}
use borrow.Author.Tests.{ltb-true}
use Rattle.std.specs.declared.option.Option.TheVariants.{None, Some}
use Rattle.prelude.specs.Lists.{all, member_list, least, IfBelow}
use Rattle.prelude.proofs.Tests.{and_left, and_right, and_intro}
use Rattle.prelude.proofs.Quantifiers.{all_append}
use Rattle.netlist.specs.Netlist.{Name}
use Rattle.netlist.specs.StoredBlock.{node_word}
use Rattle.netlist.specs.Names.{is_name_byte, is_plain_name, is_node_name}
use Rattle.netlist.specs.Syntax.{GateLine, OutputLine, Tree, apply, print_input, print_gate, print_output, is_legal_term}
use Rattle.netlist.specs.Syntax.{is_legal_gate, is_legal_output}
use Rattle.netlist.specs.Syntax.{is_legal_tree}
use Rattle.netlist.specs.Reading.{Mention, mentions, input_mention, gate_mention, port_mention, gate_lines_at, output_lines_at}
use Rattle.netlist.specs.Reading.{declared_nodes}
use Rattle.netlist.specs.Reading.{declared_ports}
use Rattle.netlist.specs.Reading.{first_repeat, or_else, Binding, input_bindings, gate_bindings, bindings, lookup}
use Rattle.text_names.specs.Packed.{packed}
use Rattle.text_names.specs.Search.{index_of, repeats_at}
use Rattle.text_lines.specs.Counting.{tree_counts}
use Rattle.text_symbols.specs.Results.{declared, packed_names, name_places, node_words, NameTable, Declared}
use Rattle.text_symbols.specs.Results.{declared_twice}
use Rattle.text_lines.specs.declared.counts.Counts.{Counts}
use Rattle.netlist.specs.declared.Refusal.TheVariants.{DuplicateDeclaration}
use Rattle.std.specs.declared.result.Result.TheVariants.{Ok, Err}
use Rattle.words_refusals.specs.Tests.{test_at}
use Rattle.text_names.proofs.LegalNames.{name-bytes}
use Rattle.text_lines.proofs.TreeLines.{legal-parts}
use Rattle.text_names.proofs.Lookup.{Bytes, index_same, index-member, index-lookup}
use Rattle.text_names.proofs.Repeats.{repeat-found, repeat-none}

-- ---- the declared names are the names of the lines

abbrev pub mentioned : List Mention → List Name
mentioned ds = map (λ (d : Mention). d.name) ds

mentioned-are : {A : Type 0} (printed : A → List ℕ → List ℕ) (in_line : A → ℕ → List Mention) (named : A → Name)
    (place : ℕ → ℕ)
    → ((x : A) (at : ℕ) → in_line x at ≡ record { name = named x; place = place at } ∷ []) → (xs : List A) (at : ℕ)
    → mentioned (mentions printed in_line xs at) ≡ map named xs
unfolding mentions
mentioned-are printed in_line named place e [] at = refl
mentioned-are printed in_line named place e (x ∷ xs) at =
    rw (e x at) (ap (λ (r : List Name). named x ∷ r)
    (mentioned-are printed in_line named place e xs (at + length (printed x []))))

module _ (t : Tree) where
  abbrev node_names : List Name
  node_names = map (λ s. s) t.inputs ++ map (λ (g : GateLine). g.name) t.gates

  node-names : mentioned (declared_nodes t) ≡ node_names
  unfolding declared_nodes input_mention gate_mention
  node-names =
      map-append (λ (d : Mention). d.name) (mentions print_input input_mention t.inputs 0)
      (mentions print_gate gate_mention t.gates (gate_lines_at t))
      ∙ ap₂ ◌++◌ (mentioned-are print_input input_mention _ _ (λ x at. refl) t.inputs 0)
      (mentioned-are print_gate gate_mention _ _ (λ x at. refl) t.gates (gate_lines_at t))

  port-names : mentioned (declared_ports t) ≡ map (λ (o : OutputLine). o.port) t.outputs
  unfolding declared_ports port_mention
  port-names = mentioned-are print_output port_mention _ _ (λ x at. refl) t.outputs (output_lines_at t)

  bound-inputs : (ss : List Name) (k : ℕ) → map (λ (b : Binding). b.name) (input_bindings ss k) ≡ map (λ s. s) ss
  unfolding input_bindings
  bound-inputs [] k = refl
  bound-inputs (s ∷ ss) k = ap (λ (r : List Name). s ∷ r) (bound-inputs ss (suc k))

  bound-gates : (gs : List GateLine) (first : ℕ)
      → map (λ (b : Binding). b.name) (gate_bindings gs first) ≡ map (λ (g : GateLine). g.name) gs
  unfolding gate_bindings
  bound-gates [] first = refl
  bound-gates (g ∷ gs) first = ap (λ (r : List Name). g.name ∷ r) (bound-gates gs _)

  -- the bound names are the declared ones
  pub bound-names : map (λ (b : Binding). b.name) (bindings t) ≡ mentioned (declared_nodes t)
  unfolding bindings
  bound-names =
      map-append (λ (b : Binding). b.name) (input_bindings t.inputs 0) (gate_bindings t.gates 0)
      ∙ ap₂ ◌++◌ (bound-inputs t.inputs 0) (bound-gates t.gates 0) ∙ sym node-names

bytes_of : {A : Type 0} (legal : A → Bool) (named : A → Name)
    → ((x : A) → legal x ≡ true → all is_name_byte (named x) ≡ true) → (xs : List A)
    → all legal xs ≡ true → Bytes (map named xs)
bytes_of legal named f [] h = refl
bytes_of legal named f (x ∷ xs) h =
    and_intro (all is_name_byte (named x)) (all (all is_name_byte) (map named xs))
    (f x (and_left (legal x) (all legal xs) h))
    (bytes_of legal named f xs (and_right (legal x) (all legal xs) h))

module _ (t : Tree) (legal : is_legal_tree t ≡ true) where
  node-bytes : Bytes (mentioned (declared_nodes t))
  unfolding is_plain_name is_legal_gate is_node_name
  node-bytes =
      let p = legal-parts t legal in
      rw (node-names t)
      (all_append (all is_name_byte) (map (λ s. s) t.inputs) (map (λ (g : GateLine). g.name) t.gates)
      ∙ and_intro (all (all is_name_byte) (map (λ s. s) t.inputs))
      (all (all is_name_byte) (map (λ (g : GateLine). g.name) t.gates))
      (bytes_of is_plain_name (λ s. s) (λ x h. name-bytes _ x h) t.inputs p.inputs)
      (bytes_of is_legal_gate (λ (g : GateLine). g.name)
      (λ g h. name-bytes _ g.name (and_left (is_node_name g.name) (is_legal_term (apply g.kind g.terms) 8) h))
      t.gates p.gates))

  port-bytes : Bytes (mentioned (declared_ports t))
  unfolding is_legal_output is_plain_name
  port-bytes =
      rw (port-names t)
      (bytes_of is_legal_output (λ (o : OutputLine). o.port)
      (λ o h. name-bytes _ o.port (and_left (is_plain_name o.port) (is_node_name o.shown) h))
      t.outputs (legal-parts t legal).outputs)

-- ---- the parts of the tables that hold nodes and ports

module _ (t : Tree) where
  pub nodes-length : length (declared_nodes t) ≡ length t.inputs + length t.gates
  nodes-length =
      sym (length-map (declared_nodes t) (λ (d : Mention). d.name))
      ∙ rw (node-names t) (omega (
        arith,
        length-append (map (λ (s : Name). s) t.inputs) (map (λ (g : GateLine). g.name) t.gates),
        length-map t.inputs (λ (s : Name). s),
        length-map t.gates (λ (g : GateLine). g.name),
      ))

  pub ports-length : length (declared_ports t) ≡ length t.outputs
  ports-length =
      sym (length-map (declared_ports t) (λ (d : Mention). d.name))
      ∙ rw (port-names t) (length-map t.outputs (λ (o : OutputLine). o.port))

  bound-length : length (bindings t) ≡ length (declared_nodes t)
  bound-length =
      sym (length-map (bindings t) (λ (b : Binding). b.name))
      ∙ rw (bound-names t) (length-map (declared_nodes t) (λ (d : Mention). d.name))

-- a table of the whole: its first part, and what follows
module _ (t : Tree) (f : Mention → ℕ) (xs : List ℕ) (held : take (length (declared t)) xs ≡ map f (declared t)) where
  abbrev size : ℕ
  size = length (declared_nodes t)

  whole : take size xs ++ take (length (declared_ports t)) (drop size xs)
      ≡ map f (declared_nodes t) ++ map f (declared_ports t)
  unfolding declared
  whole =
      sym (take-add size (length (declared_ports t)) xs)
      ∙ ap (λ k. take k xs) (sym (length-append (declared_nodes t) (declared_ports t))) ∙ held
      ∙ map-append f (declared_nodes t) (declared_ports t)

  module _ (room : size ≤ length xs) where
    nodes-held : take size xs ≡ map f (declared_nodes t)
    nodes-held =
        sym (take_at (take size xs) (take (length (declared_ports t)) (drop size xs)) size (length-take-le size xs room))
        ∙ ap (take size) whole ∙ take_at (map f (declared_nodes t)) (map f (declared_ports t)) size
        (length-map (declared_nodes t) f)

    ports-held : take (length (declared_ports t)) (drop size xs) ≡ map f (declared_ports t)
    ports-held =
        sym (drop_at (take size xs) (take (length (declared_ports t)) (drop size xs)) size (length-take-le size xs room))
        ∙ ap (drop size) whole ∙ drop_at (map f (declared_nodes t)) (map f (declared_ports t)) size
        (length-map (declared_nodes t) f)

-- ---- 4: the earliest repeated declaration

module _ (t : Tree) (legal : is_legal_tree t ≡ true) (c : Counts) (counted : c ≡ tree_counts t) (names places : List ℕ)
    (table : NameTable t names places) (name_room : c.inputs + c.named + c.outputs ≤ length names)
    (place_room : c.inputs + c.named + c.outputs ≤ length places) where
  abbrev nodes : ℕ
  nodes = c.inputs + c.named

  abbrev ports : ℕ
  ports = c.outputs

  node-count : nodes ≡ length (declared_nodes t)
  unfolding tree_counts
  node-count = rw (counted, nodes-length t)

  port-count : ports ≡ length (declared_ports t)
  unfolding tree_counts
  port-count = rw (counted, ports-length t)

  node-keys : take nodes names ≡ map (λ (d : Mention). packed d.name) (declared_nodes t)
  unfolding packed_names
  node-keys = rw node-count (nodes-held t _ names table.numbers_are (omega (arith, node-count)))

  port-keys : take (nodes + ports - nodes) (drop nodes names)
      ≡ map (λ (d : Mention). packed d.name) (declared_ports t)
  unfolding packed_names
  port-keys =
      let e : nodes + ports - nodes ≡ length (declared_ports t) = omega (arith, port-count) in
      rw (e, node-count) (ports-held t _ names table.numbers_are (omega (arith, node-count)))

  node-places : (i : ℕ) → i < nodes → get_or places i 0 ≡ get_or (map (λ (d : Mention). d.place) (declared_nodes t)) i 0
  unfolding name_places
  node-places i l =
      let l' : i < length (declared_nodes t) = omega (arith, node-count) in
      rw (← nodes-held t _ places table.places_are (omega (arith, node-count)))
      (sym (get_or-take (length (declared_nodes t)) places i 0 l'))

  port-places : (j : ℕ) → j < ports
      → get_or places (nodes + j) 0 ≡ get_or (map (λ (d : Mention). d.place) (declared_ports t)) j 0
  unfolding name_places
  port-places j l =
      let l' : j < length (declared_ports t) = omega (arith, port-count) in
      rw (
        ← ports-held t _ places table.places_are (omega (arith, node-count)),
        get_or-take (length (declared_ports t)) (drop (length (declared_nodes t)) places) j 0 l',
        get_or-drop,
        node-count,
      )

  -- the first repeat among some names
  abbrev first_of : List ℕ → ℕ
  first_of keys = least (repeats_at keys) (length keys)

  among : (ds : List Mention) (keys : List ℕ) → keys ≡ map (λ (d : Mention). packed d.name) ds
      → first_of keys ≡ least (repeats_at (map (λ (d : Mention). packed d.name) ds)) (length ds)
  among ds keys e = rw (e, length-map ds (λ (d : Mention). packed d.name))

  abbrev node_numbers : List ℕ
  node_numbers = take nodes names

  abbrev port_numbers : List ℕ
  port_numbers = take (nodes + ports - nodes) (drop nodes names)

  pub nodes-numbered : length node_numbers ≡ length (declared_nodes t)
  nodes-numbered = length-take-le nodes names (omega arith) ∙ node-count

  ports-numbered : length port_numbers ≡ length (declared_ports t)
  ports-numbered = ap length port-keys ∙ length-map (declared_ports t) (λ (d : Mention). packed d.name)

  pub node-repeats : {i : ℕ} → IfBelow (first_of node_numbers) (length node_numbers) (Some i)
      → Err (DuplicateDeclaration (get_or places i 0)) ≡ test_at (declared_twice t) DuplicateDeclaration
  unfolding declared_twice or_else test_at
  node-repeats {i} (l, is) =
      let at-node = is ∙ among (declared_nodes t) node_numbers node-keys in
      let r = repeat-found (declared_nodes t) (node-bytes t legal) (rw (← at-node) (omega (arith, nodes-numbered))) in
      rw (node-places i (omega (arith, nodes-numbered, node-count)), r, ← at-node)

  module _ (none-first : IfBelow (first_of node_numbers) (length node_numbers) None) where
    no_node : first_repeat [] (declared_nodes t) ≡ none
    no_node =
        repeat-none (declared_nodes t) (node-bytes t legal)
        (rw (← among (declared_nodes t) node_numbers node-keys) (omega (arith, none-first, nodes-numbered)))

    pub port-repeats : {j : ℕ} → IfBelow (first_of port_numbers) (length port_numbers) (Some j)
        → Err (DuplicateDeclaration (get_or places (nodes + j) 0)) ≡ test_at (declared_twice t) DuplicateDeclaration
    unfolding declared_twice or_else test_at
    port-repeats {j} (l, is) =
        let at-port = is ∙ among (declared_ports t) port_numbers port-keys in
        let r = repeat-found (declared_ports t) (port-bytes t legal) (rw (← at-port) (omega (arith, ports-numbered))) in
        rw (port-places j (omega (arith, ports-numbered, port-count)), no_node, r, ← at-port)

    pub none-repeats : IfBelow (first_of port_numbers) (length port_numbers) None
        → Ok tt ≡ test_at (declared_twice t) DuplicateDeclaration
    unfolding declared_twice or_else test_at
    none-repeats none-second =
        rw (
          no_node,
          repeat-none (declared_ports t) (port-bytes t legal)
              (rw (← among (declared_ports t) port_numbers port-keys) (omega (arith, none-second, ports-numbered))),
        )

-- ---- a name and its node

module _ (t : Tree) (legal : is_legal_tree t ≡ true) (names places words : List ℕ)
    (tables : Declared t names places words)
    (name_room : length (declared_nodes t) ≤ length names) (s : Name) (named : is_node_name s ≡ true) where
  abbrev pub index : ℕ
  index = index_of names (length (declared_nodes t)) (packed s)

  name-ok : all is_name_byte s ≡ true
  unfolding is_node_name
  name-ok = name-bytes _ s named

  keys-held : (i : ℕ) → i < length (declared_nodes t)
      → get_or names i 0 ≡ get_or (map packed (mentioned (declared_nodes t))) i 0
  unfolding packed_names
  keys-held i l =
      rw (
        map-map packed (λ (d : Mention). d.name) (declared_nodes t),
        ← nodes-held t _ names tables.table.numbers_are name_room,
      )
      (sym (get_or-take (length (declared_nodes t)) names i 0 l))

  index_is : index ≡ index_of (map packed (mentioned (declared_nodes t))) (length (declared_nodes t)) (packed s)
  index_is = index_same names (map packed (mentioned (declared_nodes t))) (length (declared_nodes t)) (packed s) keys-held

  -- A name is found exactly when it is declared.
  pub declared-found : ltb index (length (declared_nodes t)) ≡ member_list s (mentioned (declared_nodes t))
  declared-found =
      let e = length-map (declared_nodes t) (λ (d : Mention). d.name) in
      rw index_is (rw e at (index-member s (mentioned (declared_nodes t)) name-ok (node-bytes t legal)))

  -- At the index of a declared name stands the number of the node that it stands for.
  pub found-node : member_list s (mentioned (declared_nodes t)) ≡ true
      → get_or words index 0 ≡ node_word (length t.inputs) (lookup (bindings t) s)
  unfolding node_words
  found-node m =
      let within : index < length (declared_nodes t) = ltb-true index (length (declared_nodes t)) (declared-found ∙ m) in
      let size : length (bindings t) ≡ length (declared_nodes t) = bound-length t in
      let l : index < length (bindings t) = rw size within in
      let at-index =
      index-lookup (node_word (length t.inputs)) s (bindings t) name-ok (rw (bound-names t) (node-bytes t legal))
      (rw (bound-names t) m) in
      sym (get_or-take (length (bindings t)) words index 0 l)
      ∙ rw tables.nodes_are (rw (bound-names t, size, ← index_is) at at-index)
