-- `op_groups::waiting::InDegrees::count_slots` meets its contract: slot after slot is counted.
use mathlib.Core.Path.{◌≡◌}
use Rattle.op_groups.specs.Underway.{CountedTo}
use Rattle.op_groups.proofs.waiting.InDegrees.count_slots.Given as goal

abbrev pub invariant-loop-e : goal.invariant-loop-e
invariant-loop-e l = CountedTo l.groups l.e l.self.counts × (l.self.ready.words ≡ l.initial.self.ready.words)
