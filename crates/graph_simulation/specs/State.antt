-- The values of what stands at each place, a code for each: constants, inputs and gates. Cited by whoever evaluates a
-- gate of a graph. Assumes nothing.
--   Coded               an array of codes that has the constants at their places
--   inputs_in, state_in   the values of the inputs and of the gates in it
--   LegalGate           a gate whose operands can be read
--   gate_code            the code of a gate's value
use Rattle.std.specs.Prelude.{ℕ, ◌+◌, ◌*◌, ◌≤◌, ◌<◌, ◌≡◌, true, List, length, get_or}
use Rattle.prelude.specs.Lists.{tab}
use Rattle.netlist.specs.Limits.{max_inputs, max_gates}
use Rattle.netlist.specs.Values.{Value, code, value_of}
use Rattle.netlist.specs.Kinds.{is_kind, arity_fits, gate_value}
use Rattle.netlist.specs.StoredBlock.{name_size, operand_of}
use Rattle.words_layout.specs.Bounds.{max_word}
use Rattle.graph_gates.specs.Places.{first_input, first_gate, place_count, place_of}
use Rattle.graph_gates.specs.Graph.{node_size, slots, kind_at, count_at, place_at}

pub record Coded (values : List ℕ) : Type 0 where
  pub long : length values ≡ place_count
  pub zero : get_or values 0 0 ≡ 0
  pub one : get_or values 1 0 ≡ 1
  pub most : (p : ℕ) → get_or values p 0 ≤ 2

-- an input past a block's last one has the code of undefined
unfoldable pub inputs_in : List ℕ → List Value
inputs_in values = tab (λ i. value_of (get_or values (first_input + i) 0)) max_inputs

unfoldable pub state_in : ℕ → List ℕ → List Value
state_in m values = tab (λ j. value_of (get_or values (first_gate + j) 0)) m

-- gate j has a kind, a number of operands that the kind allows, and a place for each slot
pub record LegalGate (graph : List ℕ) (j : ℕ) : Type 0 where
  pub below : j < max_gates
  pub kind : is_kind (kind_at graph j) ≡ true
  pub count : arity_fits (kind_at graph j) (count_at graph j) ≡ true
  pub inside : (i : ℕ) → i < slots → place_at graph j i < place_count
  pub small : get_or graph (node_size * j) 0 ≤ max_word

-- the value that slot i of gate j reads
unfoldable pub slot_value : List ℕ → List ℕ → ℕ → ℕ → Value
slot_value graph values j i = value_of (get_or values (place_at graph j i) 0)

-- the code of gate j's own value
unfoldable pub gate_code : List ℕ → List ℕ → ℕ → ℕ
gate_code graph values j = code (gate_value (kind_at graph j) (tab (slot_value graph values j) (count_at graph j)))

-- the word behind the port at `port` names what stands at a place
pub record ShownAt (words : List ℕ) (n port : ℕ) : Type 0 where
  pub near : port ≤ max_word
  pub few : n ≤ max_inputs
  pub word : get_or words (port + name_size) 0 ≤ max_word
  pub inside : place_of (operand_of n (get_or words (port + name_size) 0)) < place_count
