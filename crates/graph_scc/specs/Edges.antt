-- The words of specs/Closure.antt of a graph's reads, along or back, as one value. Cited by the contracts of this crate
-- alone. Assumes nothing.
--   SlotAdds, GateAdds, SomeAdds   the gate that a read adds to a set: by a slot, by a gate, by any
--   IsGrowing, IsReached           a set that grows from a gate, and one that is grown
use Rattle.std.specs.Prelude.{ℕ, List}
use Rattle.std.specs.declared.option.Option.{Option}
use Rattle.graph_scc.specs.declared.closure.Edges.{Edges}
use Rattle.graph_scc.specs.Closure.{SlotTarget, GateTarget, Target, Growing, Reached}

abbrev pub SlotAdds : Edges → List ℕ → ℕ → ℕ → Option ℕ → Type 0
SlotAdds e flags k s r = SlotTarget e.graph.gates e.graph.words.now e.back flags k s r

abbrev pub GateAdds : Edges → List ℕ → ℕ → Option ℕ → Type 0
GateAdds e flags k r = GateTarget e.graph.gates e.graph.words.now e.back flags k r

abbrev pub SomeAdds : Edges → List ℕ → Option ℕ → Type 0
SomeAdds e flags r = Target e.graph.gates e.graph.words.now e.back flags r

abbrev pub IsGrowing : Edges → ℕ → List ℕ → Type 0
IsGrowing e start flags = Growing e.graph.gates e.graph.words.now e.back start flags

abbrev pub IsReached : Edges → ℕ → List ℕ → Type 0
IsReached e start flags = Reached e.graph.gates e.graph.words.now e.back start flags
