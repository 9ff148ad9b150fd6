-- `lanes_batch::layered::settle_straight` meets its contract: each gate is a layer of its own.
use Rattle.lanes_batch.specs.Layered.{StraightUnder}
use Rattle.lanes_batch.proofs.layered.settle_straight.Given as goal

abbrev pub invariant-loop-j : goal.invariant-loop-j
invariant-loop-j l = StraightUnder l.graph.gates l.graph.words.now l.initial.lanes l.j l.lanes
