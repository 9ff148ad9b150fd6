-- How a block's words become a graph's. Cited by the contracts of this crate alone. Assumes nothing.
--   WordsOf      words with these nodes, whose gates are legal and read what is there
--   word_place    a slot's place from a gate's words
--   node_words    the five words of a gate
--   Putting      the gates below j are put
use Rattle.std.specs.Prelude.{ℕ, ◌+◌, ◌-◌, ◌*◌, ◌/◌, ◌%◌, ◌≤◌, ◌<◌, ◌≡◌, cond, List, [], ◌∷◌, length, get_or, ltb}
use Rattle.words_layout.specs.declared.nodes.Nodes.{Nodes}
use Rattle.netlist.specs.Limits.{max_inputs, max_gates}
use Rattle.netlist.specs.StoredBlock.{gate_size, operand_of}
use Rattle.graph_gates.specs.Places.{place_of}
use Rattle.graph_gates.specs.Graph.{node_size, slots, graph_size, controlling_of, forced_of}

-- the words of m gates stand from `start` on
pub record WordsOf (ws : List ℕ) (nodes : Nodes) : Type 0 where
  pub few_inputs : nodes.inputs ≤ max_inputs
  pub few_gates : nodes.gates ≤ max_gates
  pub near : nodes.start ≤ max_gates
  pub long : nodes.start + gate_size * nodes.gates ≤ length ws
  pub kind : (j : ℕ) → j < nodes.gates → get_or ws (nodes.start + gate_size * j) 0 % 8 ≤ 6
  pub count : (j : ℕ) → j < nodes.gates → get_or ws (nodes.start + gate_size * j) 0 / 8 ≤ slots
  pub place : (j i : ℕ) → j < nodes.gates → i < get_or ws (nodes.start + gate_size * j) 0 / 8
      → place_of (operand_of nodes.inputs (get_or ws (nodes.start + gate_size * j + 1 + i) 0)) < 2 + max_inputs
      + nodes.gates

unfoldable pub word_place : List ℕ → ℕ → ℕ → ℕ → ℕ → ℕ
word_place ws n at absent i = cond (ltb i (get_or ws at 0 / 8)) (place_of (operand_of n (get_or ws (at + 1 + i) 0))) absent

-- the operation of the gate whose words start at `at`, and the constant behind its last operand
unfoldable pub head_word : List ℕ → ℕ → ℕ
head_word ws at = get_or ws at 0 + 64 * controlling_of (get_or ws at 0 % 8) + 128 * forced_of (get_or ws at 0 % 8)

unfoldable pub absent_place : List ℕ → ℕ → ℕ
absent_place ws at = 1 - controlling_of (get_or ws at 0 % 8)

unfoldable pub node_words : List ℕ → Nodes → ℕ → List ℕ
node_words ws nodes j =
    let at = nodes.start + gate_size * j in
    let n = nodes.inputs in
    head_word ws at
    ∷ word_place ws n at (absent_place ws at) 0
    ∷ word_place ws n at (absent_place ws at) 1
    ∷ word_place ws n at (absent_place ws at) 2
    ∷ word_place ws n at (absent_place ws at) 3
    ∷ []

-- the gates below j are put: each of their words stands in the graph
pub record Putting (ws : List ℕ) (nodes : Nodes) (j : ℕ) (graph : List ℕ) : Type 0 where
  pub long : length graph ≡ graph_size
  pub put : (k i : ℕ) → k < j → i < node_size → get_or graph (node_size * k + i) 0 ≡ get_or (node_words ws nodes k) i 0
