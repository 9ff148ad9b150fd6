-- `lanes_batch::layered::Circuit::settle_run` meets its contract: a loop reads nothing behind it, and a gate on no loop reads
-- only gates before it, so each turn settles one layer more.
use mathlib.Core.Path.{◌≡◌}
use Rattle.lanes_dual_rail.specs.LaneWords.{inputs_in}
use Rattle.lanes_batch.specs.Circuit.{CircuitReached}
use Rattle.lanes_batch.proofs.layered.Circuit.settle_run.Given as goal

abbrev pub invariant-loop-k : goal.invariant-loop-k
invariant-loop-k l = CircuitReached l.self l.k l.lanes × (inputs_in l.lanes ≡ inputs_in l.initial.lanes)
