-- The words of specs/Changes.antt of a prepared block and what its rounds have found, each as one value. Cited by the
-- contracts of this crate alone. Assumes nothing.
--   MayUpdate                                what is asked of the values and of what is found
--   OneUpdated, ListUpdated, AllUpdated      a gate, the gates of a list, and all gates were evaluated
use Rattle.std.specs.Prelude.{List, ℕ}
use Rattle.graph_simulation.specs.declared.changes.PreparedBlock.{PreparedBlock}
use Rattle.graph_simulation.specs.declared.changes.Found.{Found}
use Rattle.graph_simulation.specs.Changes.{UpdateReady, UpdatedOne, UpdatedList, UpdatedAll}

abbrev pub MayUpdate : PreparedBlock → List ℕ → Found → Type 0
MayUpdate b values f = UpdateReady b.graph.gates b.graph.words.now values f.codes f.queue f.end

abbrev pub OneUpdated : PreparedBlock → List ℕ → ℕ → Found → Found → Type 0
OneUpdated b values j f after =
    UpdatedOne b.graph.gates b.graph.words.now values f.codes f.queue f.end j after.codes after.queue after.end

abbrev pub ListUpdated : PreparedBlock → List ℕ → ℕ → Found → Found → Type 0
ListUpdated b values from f after =
    UpdatedList b.graph.gates b.graph.words.now b.fanout.now values f.codes f.queue f.end from after.codes after.queue after.end

abbrev pub AllUpdated : PreparedBlock → List ℕ → Found → Found → Type 0
AllUpdated b values f after =
    UpdatedAll b.graph.gates b.graph.words.now values f.codes f.queue f.end after.codes after.queue after.end
