-- `graph_simulation::changes::Found::update_all` meets its contract: after j turns the first j gates have their values.
use Prim.Native.Nat.{◌≤◌}
use Rattle.graph_simulation.specs.Changes.{Updated}
use Rattle.graph_simulation.proofs.Updates.{DoneBelow}
use Rattle.graph_simulation.proofs.changes.Found.update_all.Given as goal

abbrev pub invariant-loop-j : goal.invariant-loop-j
invariant-loop-j l =
    record {
      within : l.j ≤ l.block.graph.gates;
      updated : Updated l.block.graph.gates l.block.graph.words.now l.values l.initial.self.codes l.initial.self.queue l.initial.self.end
          l.self.codes l.self.queue l.self.end;
      done_below : DoneBelow l.block.graph.words.now l.values l.self.codes l.j;
    }
