-- `op_groups::waiting::InDegrees::add_all_ready` meets its contract: gate after gate is looked at.
use mathlib.Core.Path.{◌≡◌}
use Rattle.op_groups.specs.Underway.{AddedBelow}
use Rattle.op_groups.proofs.waiting.InDegrees.add_all_ready.Given as goal

abbrev pub invariant-loop-l : goal.invariant-loop-l
invariant-loop-l l = AddedBelow l.groups l.l l.self × (l.self.counts ≡ l.initial.self.counts)
