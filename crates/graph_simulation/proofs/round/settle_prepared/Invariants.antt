-- `graph_simulation::round::settle_prepared` meets its contract. The loop's invariant: `values` has the state after `count`
-- rounds, each of which changed something, and `found` that after one more. The measure is the number of gates less
-- that count.
use Prim.Native.Nat.{◌-◌}
use Rattle.graph_simulation.proofs.Rounds.{Rounding}
use Rattle.graph_simulation.proofs.round.settle_prepared.Given as goal

abbrev pub invariant-loop-head : goal.invariant-loop-head
invariant-loop-head l =
    Rounding l.block.graph.gates l.block.graph.words.now l.initial.values l.values l.found.codes l.found.queue l.head l.found.end l.count

abbrev pub decreases-loop-head : goal.decreases-loop-head
decreases-loop-head l = l.block.graph.gates - l.count
