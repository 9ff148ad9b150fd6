-- `op_compare::settings::search_settings` meets its contract: no setting of a batch passed disagrees.
use mathlib.Core.Path.{◌≡◌}
use mathlib.Core.Bool.{false}
use mathlib.Core.List.{List}
use Prim.Native.Nat.{ℕ, ◌-◌, ◌<◌}
use Rattle.netlist.specs.StoredBlock.{decode}
use Rattle.netlist.specs.Compare.{disagrees}
use Rattle.lanes_settings.proofs.Batching.{Place}
use Rattle.op_compare.proofs.settings.search_settings.Given as goal

-- the blocks agree under the settings before `base`
pub record Agreeing (ours theirs : List ℕ) (n base : ℕ) : Type 0 where
  pub place : Place n base
  pub none : (i : ℕ) → i < base → disagrees (decode ours) (decode theirs) i ≡ false

abbrev pub invariant-loop-base : goal.invariant-loop-base
invariant-loop-base l = Agreeing l.ours.words.now l.theirs l.n l.base

abbrev pub decreases-loop-base : goal.decreases-loop-base
decreases-loop-base l = l.count - l.base
