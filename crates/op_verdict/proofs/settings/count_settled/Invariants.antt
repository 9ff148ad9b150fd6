-- `op_verdict::settings::count_settled` meets its contract: `settled` counts the settled settings of the batches
-- passed.
use mathlib.Core.Path.{◌≡◌}
use mathlib.Core.List.{List}
use Prim.Native.Nat.{ℕ, ◌-◌, ◌≤◌}
use lib.ListN.{get_or}
use Rattle.prelude.specs.Lists.{count_below}
use Rattle.netlist.specs.StoredBlock.{decode}
use Rattle.netlist.specs.Rounds.{is_counted}
use Rattle.lanes_settings.proofs.Batching.{Place}
use Rattle.op_verdict.proofs.settings.count_settled.Given as goal

-- the batches before `base` are counted, and the lanes as they were up to the batch at `first`
pub record Counting (words : List ℕ) (first : ℕ) (lanes₀ lanes : List ℕ) (settled base : ℕ) : Type 0 where
  pub place : Place (get_or words 0 0) base
  pub count : settled ≡ count_below (is_counted (decode words)) base
  pub kept : base ≤ first → lanes ≡ lanes₀

abbrev pub invariant-loop-base : goal.invariant-loop-base
invariant-loop-base l =
    Counting l.block.words.now l.first l.initial.lanes l.lanes l.settled l.base

abbrev pub decreases-loop-base : goal.decreases-loop-base
decreases-loop-base l = l.count - l.base
