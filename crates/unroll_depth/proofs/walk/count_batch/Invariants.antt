-- `unroll_depth::walk::count_batch` meets its contract: after g turns the first g groups are counted.
use mathlib.Core.Path.{◌≡◌}
use mathlib.Core.List.{List}
use Prim.Native.Nat.{ℕ, ◌+◌, ◌-◌, ◌≤◌}
use lib.ListN.{length, get_or}
use Rattle.netlist.specs.StoredBlock.{decode}
use Rattle.lanes_dual_rail.specs.Batches.{lanes_of}
use Rattle.lanes_dual_rail.specs.LaneWords.{lane_size}
use Rattle.unroll_depth.specs.declared.walk.Batch.{Batch}
use Rattle.unroll_depth.specs.Counting.{Counting, SameRest}
use Rattle.unroll_depth.proofs.walk.count_batch.Given as goal

-- the groups before `group` are counted
pub record Counted (words : List ℕ) (batch : Batch) (passes₀ lanes₀ passes lanes kept : List ℕ)
    (total group : ℕ) : Type 0 where
  pub within : group ≤ batch.groups
  pub counting : Counting (decode words) batch.groups batch.base group (batch.base + lanes_of (get_or words 0 0))
      passes total
  pub same : SameRest batch.groups passes₀ passes
  pub settled : lanes ≡ lanes₀
  pub room : length kept ≡ lane_size

abbrev pub invariant-loop-group : goal.invariant-loop-group
invariant-loop-group l =
    Counted l.words l.batch l.initial.passes l.initial.lanes l.passes l.lanes l.kept l.total l.group

abbrev pub decreases-loop-group : goal.decreases-loop-group
decreases-loop-group l =
    l.batch.groups - l.group
