-- A block's gates as a graph: five words a gate, its operation and the places of four operands. Cited by every crate
-- that searches, orders, evaluates or copies gates. Assumes nothing.
--   controlling_of, forced_of   by kind: the row of the table, which `not` shares with `nand`, and what stands for it in
--                             `xor` and `xnor`
--   operation_word             kind + 8 × operand count + 64 × controlling + 128 × forced
--   operand_place              operand i's place; behind the last operand the constant that changes nothing
--   kind_at, count_at, gate_at, gates_in, network   what a graph holds, as numbers, gates and a block without names
--   Graph                     every gate of a graph is legal, and its places are there
--   Decoded                   a graph of a block's gates
use Rattle.std.specs.Prelude.{ℕ, ◌+◌, ◌-◌, ◌*◌, ◌/◌, ◌%◌, ◌≤◌, ◌<◌, ◌≡◌, true, cond, List, [], length, get_or, ltb}
use Rattle.prelude.specs.Lists.{tab}
use Rattle.netlist.specs.Limits.{max_gates}
use Rattle.netlist.specs.Kinds.{row_of, is_not, is_xor, is_xnor, is_kind, arity_fits}
use Rattle.netlist.specs.Netlist.{constant, Gate, Block}
use Rattle.graph_gates.specs.Places.{first_gate, operand_at, place_of}

-- words of a gate, and of the longest graph
abbrev pub node_size : ℕ
node_size = 5

abbrev pub slots : ℕ
slots = 4

abbrev pub graph_size : ℕ
graph_size = node_size * max_gates

unfoldable pub controlling_of : ℕ → ℕ
controlling_of k = cond (is_not k) 0 (cond (is_xor k) 1 (cond (is_xnor k) 1 (row_of k).controlling))

unfoldable pub forced_of : ℕ → ℕ
forced_of k = cond (is_not k) 1 (cond (is_xor k) 0 (cond (is_xnor k) 1 (row_of k).forced))

unfoldable pub operation_word : Gate → ℕ
operation_word g = g.kind + 8 * length g.operands + 64 * controlling_of g.kind + 128 * forced_of g.kind

unfoldable pub operand_place : Gate → ℕ → ℕ
operand_place g i =
    cond (ltb i (length g.operands)) (place_of (get_or g.operands i (constant true))) (1 - controlling_of g.kind)

-- ---- what a graph holds

unfoldable pub kind_at : List ℕ → ℕ → ℕ
kind_at graph j = get_or graph (node_size * j) 0 % 8

unfoldable pub count_at : List ℕ → ℕ → ℕ
count_at graph j = get_or graph (node_size * j) 0 / 8 % 8

-- the place of operand i of gate j
unfoldable pub place_at : List ℕ → ℕ → ℕ → ℕ
place_at graph j i = get_or graph (node_size * j + 1 + i) 0

unfoldable pub gate_at : List ℕ → ℕ → Gate
gate_at graph j = record { kind = kind_at graph j; operands = tab (λ i. operand_at (place_at graph j i)) (count_at graph j) }

unfoldable pub gates_in : ℕ → List ℕ → List Gate
gates_in m graph = tab (gate_at graph) m

-- the first m gates as a block without names, never lines and outputs: rounds, reads and groups ask nothing else of a
-- block
unfoldable pub network : ℕ → List ℕ → Block
network m graph = record { inputs = []; nevers = []; gates = gates_in m graph; outputs = [] }

-- ---- legal graphs

-- gate j of m: its kind and its operand count are legal, the row's values stand in its operation, and every slot has a
-- place that is there
pub record Node (m : ℕ) (graph : List ℕ) (j : ℕ) : Type 0 where
  pub kind : is_kind (kind_at graph j) ≡ true
  pub count : arity_fits (kind_at graph j) (count_at graph j) ≡ true
  pub operation : get_or graph (node_size * j) 0 ≡ operation_word (gate_at graph j)
  pub place : (i : ℕ) → i < slots → place_at graph j i ≡ operand_place (gate_at graph j) i
  pub inside : (i : ℕ) → i < slots → place_at graph j i < first_gate + m

pub record Graph (m : ℕ) (graph : List ℕ) : Type 0 where
  pub few : m ≤ max_gates
  pub node : (j : ℕ) → j < m → Node m graph j

-- the graph of a block's gates
pub record Decoded (b : Block) (m : ℕ) (graph : List ℕ) : Type 0 where
  pub legal : Graph m graph
  pub gates : gates_in m graph ≡ b.gates
