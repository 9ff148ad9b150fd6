-- `graph_simulation::changes::Found::copy_changed` meets its contract: the gates queued before q have their values copied.
use Prim.Native.Nat.{◌+◌}
use Rattle.graph_simulation.specs.Changes.{Copied}
use Rattle.graph_simulation.proofs.changes.Found.copy_changed.Given as goal

abbrev pub invariant-loop-k : goal.invariant-loop-k
invariant-loop-k l =
    Copied l.self.codes l.self.queue l.head (l.head + l.k-index) l.initial.values l.values
