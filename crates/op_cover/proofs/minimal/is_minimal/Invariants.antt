-- `minimal::is_minimal` meets its contract: each input passed is free or needed (`Scanned`); one that can be dropped
-- decides at once.
use Rattle.op_cover.proofs.Dropping.{Scanned}
use Rattle.op_cover.proofs.minimal.is_minimal.Given as goal

abbrev pub invariant-loop-i : goal.invariant-loop-i
invariant-loop-i l = Scanned l.sound l.n l.k l.rest l.power l.i
