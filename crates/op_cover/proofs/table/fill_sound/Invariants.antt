-- `op_cover::table::fill_sound` meets its contract: after a batch the first bytes are flags up to its end.
use mathlib.Core.Path.{◌≡◌}
use mathlib.Core.List.{List}
use Prim.Native.Nat.{ℕ, ◌-◌}
use lib.ListN.{length, get_or}
use Rattle.prelude.specs.Lists.{tab, placed}
use Rattle.netlist.specs.StoredBlock.{decode}
use Rattle.op_cover.specs.Table.{sound_flag}
use Rattle.lanes_settings.proofs.Batching.{Place}
use Rattle.op_cover.proofs.table.fill_sound.Given as goal

-- the bytes of the batches before `base` are flags
pub record Filling (words sound₀ sound : List ℕ) (base : ℕ) : Type 0 where
  pub place : Place (get_or words 0 0) base
  pub flags : sound ≡ placed (tab (sound_flag (decode words)) base) sound₀
  pub same : length sound ≡ length sound₀

abbrev pub invariant-loop-base : goal.invariant-loop-base
invariant-loop-base l =
    Filling l.block.words.now l.initial.sound l.sound l.base

abbrev pub decreases-loop-base : goal.decreases-loop-base
decreases-loop-base l = l.count - l.base
