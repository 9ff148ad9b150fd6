-- `lanes_batch::layered::sweep_part` meets its contract: after i turns the first i gates of the part, there or back,
-- have been evaluated.
use Prim.Native.Nat.{◌+◌, ◌-◌}
use lib.ListN.{get_or}
use Rattle.prelude.specs.Lists.{tab}
use Rattle.lanes_batch.specs.Batch.{place_of}
use Rattle.lanes_batch.specs.Layered.{GatesEvaluated}
use Rattle.lanes_batch.proofs.layered.sweep_part.Given as goal

abbrev pub invariant-loop-i : goal.invariant-loop-i
invariant-loop-i l =
    GatesEvaluated l.graph l.initial.lanes
    (tab (λ k. get_or l.order (l.from + place_of l.back (l.end - l.from) k) 0) l.i) l.lanes l.changed
