-- `op_groups::waiting::InDegrees::count_down` meets its contract: the list goes down over all slots that read the gate.
use Rattle.op_groups.specs.Underway.{SlotCounted}
use Rattle.op_groups.proofs.Counted.{CountingDown}
use Rattle.op_groups.proofs.waiting.InDegrees.count_down.Given as goal

abbrev pub invariant-loop-at : goal.invariant-loop-at
invariant-loop-at l =
    record {
      counting : CountingDown l.groups.graph.gates l.groups.graph.words.now l.k l.groups.fanout.now l.at;
      waiting : SlotCounted l.groups l.at l.k l.numbers l.self;
    }

abbrev pub decreases-loop-at : goal.decreases-loop-at
decreases-loop-at l = l.at
