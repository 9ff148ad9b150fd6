-- `text_constraints::lines::run_of` meets its contract: the lines that are left, of those that stand there, are passed
-- one by one. Each has bytes of its own, so the place and the count stay within the text. Assumes nothing.
use Prim.Native.Nat.{◌-◌}
use lib.ListN.{length}
use Rattle.text_constraints.proofs.RunLaws.{Running}
use Rattle.text_constraints.proofs.lines.run_of.Given as goal

abbrev pub invariant-loop-end : goal.invariant-loop-end
invariant-loop-end l = Running l.letter l.from l.text l.end l.count

abbrev pub decreases-loop-end : goal.decreases-loop-end
decreases-loop-end l = length l.text - l.end
