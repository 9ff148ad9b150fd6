-- `op_compare_cells::settings::search_settings` meets its contract: no setting of a batch passed disagrees.
use mathlib.Core.List.{List}
use Prim.Native.Nat.{ℕ, ◌-◌}
use Rattle.lanes_settings.proofs.Batching.{Place}
use Rattle.op_compare_cells.specs.Found.{Agreed}
use Rattle.op_compare_cells.proofs.settings.search_settings.Given as goal

-- block and cells agree under the settings before `base`
pub record Agreeing (words shown table : List ℕ) (n base : ℕ) : Type 0 where
  pub place : Place n base
  pub agreed : Agreed words shown table base

abbrev pub invariant-loop-base : goal.invariant-loop-base
invariant-loop-base l = Agreeing l.block.words.now l.shown l.table l.n l.base

abbrev pub decreases-loop-base : goal.decreases-loop-base
decreases-loop-base l = l.count - l.base
