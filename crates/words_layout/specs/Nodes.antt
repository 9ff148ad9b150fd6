-- A block's nodes, and which gate an operand word names. Assumes nothing.
use Rattle.std.specs.Prelude.{ℕ, ◌+◌, ◌-◌, cond, List, get_or, ltb}
use Rattle.netlist.specs.StoredBlock.{gates_at}
use Rattle.words_layout.specs.declared.nodes.Nodes.{Nodes}

-- the number of the gate that a word names in a block of n inputs and m gates, or m where the word names an input, a
-- constant or nothing
unfoldable pub gate_named : ℕ → ℕ → ℕ → ℕ
gate_named n m word = cond (ltb word n) m (cond (ltb word (n + m)) (word - n) m)

-- the counts at a block's head, and where its gates start
unfoldable pub nodes_of : List ℕ → Nodes
nodes_of ws = record { inputs = get_or ws 0 0; gates = get_or ws 1 0; start = gates_at (get_or ws 0 0) (get_or ws 3 0) }
