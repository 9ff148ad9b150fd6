-- The words that Read writes are the encoding of the tree's block. Assumes nothing.
use mathlib.Core.Path.{◌≡◌, refl, sym, ap, ap₂, ◌∙◌}
use mathlib.Core.Bool.{true}
use mathlib.Core.List.{List, [], ◌∷◌, ◌++◌, map, append_assoc, map-append, map-map}
use Prim.Native.Nat.{ℕ, ◌*◌, ◌≤◌}
use native.Mathlib.Omega.{arith}
use lib.ListN.{length, get_or, take, length-append, length-map}
use lib.Seq.{take-take, take_at, get_or-take}
use Rattle.prelude.specs.Lists.{all, tab, joined}
use Rattle.prelude.proofs.Tests.{and_left, and_right}
use Rattle.prelude.proofs.Tab.{tab-ext, tab-get_d, map-tab}
use Rattle.netlist.specs.Netlist.{Name, gate_count, output_count, never_count}
use Rattle.netlist.specs.StoredBlock.{name_words, never_words, gate_words, output_words, encode}
use Rattle.netlist.specs.Names.{is_plain_name}
use Rattle.netlist.specs.Syntax.{Tree, is_legal_tree, print_input, print_gate}
use Rattle.netlist.specs.Reading.{Mention, mentions, input_mention, gate_mention, gate_lines_at, declared_nodes}
use Rattle.netlist.specs.Reading.{declared_ports}
use Rattle.netlist.specs.Reading.{block_of}
use Rattle.theory_encoding.proofs.ListFacts.{length-joined}
use Rattle.theory_encoding.proofs.Gates.{length-gate_words}
use Rattle.theory_encoding.proofs.Outputs.{length-output_words}
use Rattle.text_lines.specs.declared.counts.Counts.{Counts}
use Rattle.text_names.specs.Packed.{packed}
use Rattle.text_lines.specs.Counting.{tree_counts}
use Rattle.text_symbols.specs.Results.{declared, packed_names}
use Rattle.text_names.proofs.LegalNames.{name-bytes}
use Rattle.text_lines.proofs.TreeLines.{legal-parts}
use Rattle.text_symbols.proofs.TreeSearch.{nodes-length}
use Rattle.text_names.specs.Ports.{port_words}
use Rattle.text_names.proofs.PortNames.{port-words}
use Rattle.text_expressions.proofs.BlockSize.{block-gates, block-outputs, block-nevers}
use Rattle.text_block.specs.Words.{name_of, word_of, tree_block_words}
use Rattle.op_read.specs.Steps.{WriteReady}
use Rattle.op_read.proofs.ListFacts.{placed-front}

-- ---- the names of the inputs

input-numbers : (ss : List Name) (at : ℕ)
    → map (λ (d : Mention). packed d.name) (mentions print_input input_mention ss at) ≡ map packed ss
unfolding mentions input_mention
input-numbers [] at = refl
input-numbers (s ∷ ss) at = ap {B = List ℕ} (λ r. packed s ∷ r) (input-numbers ss _)

names-words : (ss : List Name) → all is_plain_name ss ≡ true
    → map (λ (s : Name). port_words (packed s)) ss ≡ map name_words ss
unfolding is_plain_name
names-words [] h = refl
names-words (s ∷ ss) h =
    ap₂ (λ (a : List ℕ) (r : List (List ℕ)). a ∷ r)
    (port-words s (name-bytes _ s (and_left (is_plain_name s) (all is_plain_name ss) h)))
    (names-words ss (and_right (is_plain_name s) (all is_plain_name ss) h))

module _ (t : Tree) (legal : is_legal_tree t ≡ true) (names : List ℕ)
    (is : take (length (declared t)) names ≡ packed_names t) where
  number : Mention → ℕ
  number d = packed d.name

  pub first-numbers : take (length t.inputs) names ≡ map packed t.inputs
  unfolding declared packed_names declared_nodes number
  first-numbers =
      let n = length t.inputs in
      let ins = mentions print_input input_mention t.inputs 0 in
      let gs = mentions print_gate gate_mention t.gates (gate_lines_at t) in
      let e : map number (declared t) ≡ map packed t.inputs ++ (map number gs ++ map number (declared_ports t)) =
      map-append number (ins ++ gs) (declared_ports t)
      ∙ ap (λ (r : List ℕ). r ++ map number (declared_ports t))
      (map-append number ins gs ∙ ap (λ (r : List ℕ). r ++ map number gs) (input-numbers t.inputs 0))
      ∙ append_assoc (map packed t.inputs) (map number gs) (map number (declared_ports t)) in
      let l : n ≤ length (declared t) =
      omega (arith, length-append (declared_nodes t) (declared_ports t), nodes-length t) in
      sym (take-take n (length (declared t)) names l) ∙ ap (take n) (is ∙ e)
      ∙ take_at (map packed t.inputs) _ n (length-map t.inputs packed)

  input-words : tab (name_of names) (length t.inputs) ≡ map name_words t.inputs
  unfolding name_of
  input-words =
      let n = length t.inputs in
      let ps = map packed t.inputs in
      tab-ext (name_of names) (λ i. port_words (get_or ps i 0)) n
      (λ i l. ap port_words (sym (get_or-take n names i 0 l) ∙ ap (λ (r : List ℕ). get_or r i 0) first-numbers))
      ∙ sym (map-tab port_words (λ i. get_or ps i 0) n)
      ∙ ap (map port_words) (tab-get_d 0 ps n (length-map t.inputs packed))
      ∙ map-map port_words packed t.inputs
      ∙ names-words t.inputs (legal-parts t legal).inputs

five-parts : {i g o l i' g' o' l' : ℕ} {N M G O N' M' G' O' : List ℕ} → i ≡ i' → g ≡ g' → o ≡ o' → l ≡ l'
    → N ≡ N' → M ≡ M' → G ≡ G' → O ≡ O'
    → ◌≡◌ {A = List ℕ} ((i ∷ g ∷ o ∷ l ∷ []) ++ N ++ M ++ G ++ O) ((i' ∷ g' ∷ o' ∷ l' ∷ []) ++ N' ++ M' ++ G' ++ O')
five-parts p q r k x m y z = rw (p, q, r, k, x, m, y, z)

module _ {text : List ℕ} {c : Counts} {names masks gates outputs : List ℕ}
    (w : WriteReady text c names masks gates outputs) where
  abbrev t : Tree
  t = w.tree

  abbrev n : ℕ
  n = length t.inputs

  inputs_are : c.inputs ≡ n
  unfolding tree_counts
  inputs_are = ap (λ (d : Counts). d.inputs) w.counted

  nevers-are : c.nevers ≡ never_count (block_of t)
  unfolding tree_counts
  nevers-are = ap (λ (d : Counts). d.nevers) w.counted ∙ sym (block-nevers t)

  gates-are : c.gates ≡ gate_count (block_of t)
  unfolding tree_counts
  gates-are = ap (λ (d : Counts). d.gates) w.counted ∙ sym (block-gates t)

  outputs-are : c.outputs ≡ output_count (block_of t)
  unfolding tree_counts
  outputs-are = ap (λ (d : Counts). d.outputs) w.counted ∙ sym (block-outputs t)

  pub masks-length : length (joined (map never_words (block_of t).nevers)) ≡ 2 * c.nevers
  unfolding never_words
  masks-length = length-joined never_words 2 (λ _. refl) (block_of t).nevers ∙ ap (λ (k : ℕ). 2 * k) (sym nevers-are)

  pub gates-length : length (joined (map (gate_words n) (block_of t).gates)) ≡ 5 * c.gates
  gates-length =
      length-joined (gate_words n) 5 (length-gate_words n) (block_of t).gates ∙ ap (λ (k : ℕ). 5 * k) (sym gates-are)

  pub outputs-length : length (joined (map (output_words n) (block_of t).outputs)) ≡ 5 * c.outputs
  outputs-length =
      length-joined (output_words n) 5 (length-output_words n) (block_of t).outputs
      ∙ ap (λ (k : ℕ). 5 * k) (sym outputs-are)

  input-names : tab (name_of names) n ≡ map name_words t.inputs
  input-names = input-words t w.is.legal names w.numbers_are

  -- the words are the block's
  pub words_are : tree_block_words c names masks gates outputs ≡ encode (block_of t)
  unfolding tree_block_words encode word_of block_of
  words_are =
      five-parts inputs_are gates-are outputs-are nevers-are
      (ap (λ (k : ℕ). joined (tab (name_of names) k)) inputs_are ∙ ap joined input-names)
      (ap (λ (r : List ℕ). tab (word_of r) (2 * c.nevers)) w.masks_written
      ∙ placed-front 0 _ w.masks₀ (2 * c.nevers) masks-length)
      (ap (λ (r : List ℕ). tab (word_of r) (5 * c.gates)) w.gates_written
      ∙ placed-front 0 _ w.gates₀ (5 * c.gates) gates-length)
      (ap (λ (r : List ℕ). tab (word_of r) (5 * c.outputs)) w.outputs_written
      ∙ placed-front 0 _ w.outputs₀ (5 * c.outputs) outputs-length)
