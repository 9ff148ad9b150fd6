-- What settling asks of what is prepared, and what it leaves in the array of values. Cited by the contracts of this
-- crate and of those that go by it: Settle, Pass and the bench. Assumes nothing.
--   PreparedFor   the graph and the fan-out of a block's gates
--   Bytes, Blank  a setting's bytes, and an array in which nothing has a value
--   Starting      an array with the inputs' values, in which no gate has a value
--   SettledIn     the settled values in an array, and the number of rounds
use Rattle.std.specs.Prelude.{◌≡◌, List, ℕ, ◌+◌, ◌≤◌, ◌<◌, length, get_or}
use Rattle.netlist.specs.Limits.{max_inputs, max_gates}
use Rattle.netlist.specs.Values.{Value, undefined, value_of}
use Rattle.netlist.specs.StoredBlock.{decode}
use Rattle.netlist.specs.Rounds.{rounds, settled}
use Rattle.graph_gates.specs.Places.{first_input, first_gate, place_count}
use Rattle.graph_gates.specs.Graph.{network, Decoded}
use Rattle.graph_gates.specs.Fanout.{Fanout}
use Rattle.graph_simulation.specs.State.{Coded, inputs_in, state_in}

-- prepared for the block that these words hold: its graph and its fan-out
pub record PreparedFor (ws graph fanout : List ℕ) : Type 0 where
  pub decoded : Decoded (decode ws) (get_or ws 1 0) graph
  pub linked : Fanout (get_or ws 1 0) graph fanout

-- a setting: a byte for each input, each 0, 1 or 2
pub record Bytes (setting : List ℕ) : Type 0 where
  pub few : length setting ≤ max_inputs
  pub most : (i : ℕ) → get_or setting i 0 ≤ 2

-- an array of values in which nothing has a value yet
pub record Blank (values : List ℕ) : Type 0 where
  pub long : length values ≡ place_count
  pub all : (p : ℕ) → p < place_count → get_or values p 0 ≡ 2

-- an array of values in which no gate has a value
pub record Unsettled (values : List ℕ) : Type 0 where
  pub coded : Coded values
  pub none : (j : ℕ) → j < max_gates → get_or values (first_gate + j) 0 ≡ 2

-- an array of values in which the inputs have these values and no gate has one
pub record Starting (x : List Value) (values : List ℕ) : Type 0 where
  pub unsettled : Unsettled values
  pub few : length x ≤ max_inputs
  pub given : (i : ℕ) → i < max_inputs → value_of (get_or values (first_input + i) 0) ≡ get_or x i undefined

-- the inputs are as they were, and the gates have their settled values
pub record SettledIn (m : ℕ) (graph values values' : List ℕ) (count : ℕ) : Type 0 where
  pub coded : Coded values'
  pub inputs : inputs_in values' ≡ inputs_in values
  pub state : state_in m values' ≡ settled (network m graph) (inputs_in values)
  pub reported : count ≡ rounds (network m graph) (inputs_in values)
