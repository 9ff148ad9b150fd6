-- What one sweep leaves in the array of values and in a slice. Assumes nothing.
use Rattle.std.specs.Prelude.{◌≡◌, List, map, ℕ}
use Rattle.netlist.specs.Values.{code, value_of}
use Rattle.netlist.specs.StoredBlock.{decode}
use Rattle.netlist.specs.Rendering.{sweep}
use Rattle.graph_gates.specs.Graph.{network}
use Rattle.graph_simulation.specs.State.{Coded, inputs_in, state_in}

-- the inputs are as they were, and the gates have the values of one sweep
pub record SweptIn (m : ℕ) (graph values values' : List ℕ) : Type 0 where
  pub coded : Coded values'
  pub inputs : inputs_in values' ≡ inputs_in values
  pub state : state_in m values' ≡ sweep (network m graph) (inputs_in values)

-- the codes of all gates after one sweep
unfoldable pub sweep_codes : List ℕ → List ℕ → List ℕ
sweep_codes ws setting = map code (sweep (decode ws) (map value_of setting))
