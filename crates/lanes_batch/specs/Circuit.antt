-- The words of specs/Layered.antt of a circuit as one value. Cited by the contracts of this crate alone. Assumes
-- nothing.
--   IsUnderway, room_of                        lanes on the way to the settled values, and how much can still change
--   HasPart, Advanced                          positions of its order, and sweeps over their gates
--   InLayers, CircuitReached, CircuitSettled   its layers, and which of them are settled
use Rattle.std.specs.Prelude.{Bool, List, ℕ}
use Rattle.graph_scc.specs.Layers.{Layers}
use Rattle.lanes_batch.specs.declared.layered.Circuit.{Circuit}
use Rattle.lanes_batch.specs.Layered.{LanesUnderway, OrderPart, PartAdvanced, Reached, LayersSettled, room_in}

abbrev pub IsUnderway : Circuit → List ℕ → Type 0
IsUnderway c w = LanesUnderway c.graph.gates c.inputs c.graph.words.now w

abbrev pub room_of : Circuit → List ℕ → ℕ
room_of c w = room_in c.graph.gates c.inputs w

abbrev pub HasPart : Circuit → ℕ → ℕ → Type 0
HasPart c from end = OrderPart c.graph.gates c.order.now from end

abbrev pub Advanced : Circuit → ℕ → ℕ → List ℕ → List ℕ → Bool → Type 0
Advanced c from end w after done =
    PartAdvanced c.graph.gates c.inputs c.graph.words.now c.order.now from end w after done

abbrev pub InLayers : Circuit → Type 0
InLayers c = Layers c.graph.gates c.graph.words.now c.order.now c.ends.now

abbrev pub CircuitReached : Circuit → ℕ → List ℕ → Type 0
CircuitReached c i w = Reached c.graph.gates c.inputs c.graph.words.now c.order.now c.ends.now i w

abbrev pub CircuitSettled : Circuit → ℕ → List ℕ → List ℕ → ℕ → Type 0
CircuitSettled c i w after next =
    LayersSettled c.graph.gates c.inputs c.graph.words.now c.order.now c.ends.now i w after next
