-- `op_groups::ready::ReadySet::lowest` meets its contract: no gate of the words passed is in the set.
use Rattle.op_groups.proofs.Sets.{NoneBelow}
use Rattle.op_groups.proofs.ready.ReadySet.lowest.Given as goal

abbrev pub invariant-loop-at : goal.invariant-loop-at
invariant-loop-at l = NoneBelow l.self.words l.at
