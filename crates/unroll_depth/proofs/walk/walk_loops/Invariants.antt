-- `unroll_depth::walk::walk_loops` meets its contract: after each batch the passes are enough for its settings too, and
-- its lowest setting is known.
use mathlib.Core.List.{List}
use Prim.Native.Nat.{ℕ, ◌-◌}
use lib.ListN.{get_or}
use Rattle.netlist.specs.StoredBlock.{decode}
use Rattle.lanes_settings.proofs.Batching.{Place}
use Rattle.unroll_depth.specs.declared.Found.{Found}
use Rattle.unroll_depth.specs.Counting.{WalkedBatch}
use Rattle.unroll_depth.proofs.walk.walk_loops.Given as goal

-- the batches before `base` are walked
pub record Walking (words : List ℕ) (count : ℕ) (passes₀ passes : List ℕ) (found : Found)
    (base : ℕ) : Type 0 where
  pub place : Place (get_or words 0 0) base
  pub walked : WalkedBatch (decode words) count base passes₀ passes found

abbrev pub invariant-loop-base : goal.invariant-loop-base
invariant-loop-base l = Walking l.block.words.now l.count l.initial.passes l.passes l.found l.base

abbrev pub decreases-loop-base : goal.decreases-loop-base
decreases-loop-base l = l.settings - l.base
