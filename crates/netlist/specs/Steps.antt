-- SPECIFICATION 3.5: single gates evaluated one after the other, in any order (chaotic iteration). Passes over a group
-- (6.1) and the theorem on any order are said with these.
use Rattle.std.specs.Prelude.{ℕ, List, [], ◌∷◌, set}
use Rattle.netlist.specs.Values.{Value}
use Rattle.netlist.specs.Netlist.{Block, gate_of}
use Rattle.netlist.specs.Rounds.{evaluated}

-- gate j is evaluated from the state, and its value stored
unfoldable pub step_at : Block → List Value → ℕ → List Value → List Value
step_at b x j state = set state j (evaluated x state (gate_of b j))

-- a step at each gate listed, first to last; a gate may stand in the list often, or not at all
unfoldable pub run : Block → List Value → List ℕ → List Value → List Value
run b x [] state = state
run b x (j ∷ js) state = run b x js (step_at b x j state)
