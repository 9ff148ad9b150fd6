-- `op_groups::numbering::number_group` meets its contract: the gates of the group below the next one have the number.
use Prim.Native.Nat.{◌-◌}
use Rattle.op_groups.proofs.Grouping.{Under}
use Rattle.op_groups.proofs.numbering.number_group.Given as goal

abbrev pub invariant-loop-k : goal.invariant-loop-k
invariant-loop-k l =
    Under l.groups.graph.gates l.leader l.number l.groups.graph.words.now l.groups.leaders.now l.initial.numbers l.numbers
    l.waiting.counts l.waiting.ready.words l.k

abbrev pub decreases-loop-k : goal.decreases-loop-k
decreases-loop-k l = l.groups.graph.gates - l.k
