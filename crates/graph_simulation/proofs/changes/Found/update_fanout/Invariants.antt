-- `graph_simulation::changes::Found::update_fanout` meets its contract: whoever is in the list has its value, or is in the
-- rest of it.
use Prim.Native.Nat.{◌≤◌}
use Rattle.graph_simulation.specs.Changes.{Updated}
use Rattle.graph_simulation.proofs.Updates.{Awaiting}
use Rattle.graph_simulation.proofs.changes.Found.update_fanout.Given as goal

abbrev pub invariant-loop-e : goal.invariant-loop-e
invariant-loop-e l =
    record {
      within : l.p ≤ l.from;
      updated : Updated l.block.graph.gates l.block.graph.words.now l.values l.initial.self.codes l.initial.self.queue l.initial.self.end
          l.self.codes l.self.queue l.self.end;
      awaits : Awaiting l.block.graph.words.now l.block.fanout.now l.values l.self.codes l.from l.p;
    }

abbrev pub decreases-loop-e : goal.decreases-loop-e
decreases-loop-e l = l.p
