-- `graph_simulation::changes::Found::update_changed` meets its contract: a gate has its value, or reads a gate that is queued
-- from q on.
use Prim.Native.Nat.{◌≤◌}
use Rattle.graph_simulation.specs.Changes.{Updated, Pending}
use Rattle.graph_simulation.proofs.changes.Found.update_changed.Given as goal

abbrev pub invariant-loop-q : goal.invariant-loop-q
invariant-loop-q l =
    record {
      within : l.q ≤ l.initial.self.end;
      updated : Updated l.block.graph.gates l.block.graph.words.now l.values l.initial.self.codes l.initial.self.queue l.initial.self.end
          l.self.codes l.self.queue l.self.end;
      pending : Pending l.block.graph.gates l.block.graph.words.now l.values l.self.codes l.initial.self.queue l.q l.initial.self.end;
    }
