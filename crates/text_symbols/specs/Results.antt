-- What the functions of src/ answer, in terms of the tree that a text prints. Assumes nothing.
use Rattle.std.specs.Prelude.{ℕ, ◌+◌, ◌≤◌, ◌<◌, ◌≡◌, true, List, [], ◌++◌, map, length, get_or, take}
use Rattle.std.proofs.Math.Option.{Option}
use Rattle.netlist.specs.declared.Refusal.TheVariants.{DuplicateDeclaration}
use Rattle.words_refusals.specs.Tests.{Test}
use Rattle.std.specs.declared.result.Result.TheVariants.{Ok}
use Rattle.words_refusals.specs.Tests.{test_at}
use Rattle.netlist.specs.Limits.{max_text, max_inputs, max_gates}
use Rattle.netlist.specs.StoredBlock.{node_word}
use Rattle.netlist.specs.Syntax.{Tree, is_legal_tree}
use Rattle.netlist.specs.Reading.{Mention, Binding, gate_lines_at, declared_nodes, declared_ports, bindings, first_repeat}
use Rattle.netlist.specs.Reading.{or_else}
use Rattle.text_names.specs.Packed.{packed}
use Rattle.text_lines.specs.Counting.{tree_counts}
use Rattle.text_symbols.specs.Tables.{table_size}
use Rattle.text_names.specs.Index.{hashes, Indexed}
use Rattle.text_lines.specs.Trees.{TextOf}
use Rattle.text_lines.specs.declared.counts.Counts.{Counts}

-- every declaration, in the order of the text: the nodes, then the ports
unfoldable pub declared : Tree → List Mention
declared t = declared_nodes t ++ declared_ports t

unfoldable pub packed_names : Tree → List ℕ
packed_names t = map (λ (d : Mention). packed d.name) (declared t)

unfoldable pub name_places : Tree → List ℕ
name_places t = map (λ (d : Mention). d.place) (declared t)

-- the node numbers of the declared nodes
unfoldable pub node_words : Tree → List ℕ
node_words t = map (λ (b : Binding). node_word (length t.inputs) b.node) (bindings t)

-- the tables hold the tree's declared names: their numbers and their places
pub record NameTable (t : Tree) (names places : List ℕ) : Type 0 where
  pub numbers_are : take (length (declared t)) names ≡ packed_names t
  pub places_are : take (length (declared t)) places ≡ name_places t

-- the tables hold the tree's declared names, their places, and the nodes that they declare
pub record Declared (t : Tree) (names places words : List ℕ) : Type 0 where
  pub table : NameTable t names places
  pub nodes_are : take (length (bindings t)) words ≡ node_words t

-- a text, and room for the numbers of the names of n inputs
pub record InputRoom (text : List ℕ) (n : ℕ) (inputs : List ℕ) : Type 0 where
  pub short : length text ≤ max_text
  pub few : n ≤ max_inputs
  pub room : length inputs ≡ max_inputs

-- a table begins with the numbers of the names of n inputs
pub record InputNames (text : List ℕ) (n : ℕ) (inputs : List ℕ) : Type 0 where
  pub sized : length inputs ≡ max_inputs
  pub numbers : (t : Tree) → TextOf t text → n ≡ length t.inputs → take n inputs ≡ map packed t.inputs

-- room for the tables of a text with these counts, whose gate lines start there
pub record TableRoom (c : Counts) (text : List ℕ) (end : ℕ) (names places words : List ℕ) : Type 0 where
  pub short : length text ≤ max_text
  pub inside : end ≤ length text
  pub few : c.inputs ≤ max_inputs
  pub room : c.inputs + c.named + c.outputs ≤ table_size
  pub number_room : table_size ≤ length names
  pub place_room : table_size ≤ length places
  pub node_room : table_size ≤ length words

-- the tables keep their lengths and are those of the tree
pub record Filled (c : Counts) (text : List ℕ) (end : ℕ) (names places words names' places' words' : List ℕ) : Type
    0 where
  pub name_size : length names' ≡ length names
  pub place_size : length places' ≡ length places
  pub node_size : length words' ≡ length words
  pub tables : (t : Tree) → TextOf t text → c ≡ tree_counts t → end ≡ gate_lines_at t → Declared t names' places' words'

-- the index holds the names of the declared nodes
abbrev pub NodesIndexed : Counts → List ℕ → List ℕ → Type 0
NodesIndexed c names index =
    Indexed (take (c.inputs + c.named) names) (length (take (c.inputs + c.named) names)) index

-- the tables of names and places are filled for these counts, and the index is empty
pub record IndexReady (c : Counts) (names places index : List ℕ) : Type 0 where
  pub number_room : c.inputs + c.named + c.outputs ≤ length names
  pub place_room : c.inputs + c.named + c.outputs ≤ length places
  pub few : c.inputs + c.named ≤ max_inputs + max_gates
  pub index_room : hashes + (max_inputs + max_gates) < length index
  pub empty : (j : ℕ) → get_or index j 0 ≡ 0

-- refusal 4 outside never lines: every node is declared before every port
unfoldable pub declared_twice : Tree → Option ℕ
declared_twice t = or_else (first_repeat [] (declared_nodes t)) (first_repeat [] (declared_ports t))

-- the answer of refusal 4 outside never lines; where it passes, the index holds the names
pub record Repeats (c : Counts) (names places index : List ℕ) (r : Test) : Type 0 where
  pub answer : (t : Tree) → is_legal_tree t ≡ true → c ≡ tree_counts t → NameTable t names places
      → r ≡ test_at (declared_twice t) DuplicateDeclaration
  pub indexed : r ≡ Ok tt → NodesIndexed c names index
