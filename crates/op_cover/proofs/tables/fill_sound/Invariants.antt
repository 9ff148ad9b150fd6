-- `tables::fill_sound` meets its contract: each turn adds a setting.
use Prim.Native.Nat.{◌^◌, ◌≤◌}
use mathlib.Core.Path.{◌≡◌}
use lib.ListN.{length}
use Rattle.theory_cover.specs.Tables.{Filled}
use Rattle.op_cover.proofs.tables.fill_sound.Given as goal

abbrev pub invariant-loop-setting : goal.invariant-loop-setting
invariant-loop-setting l =
    let settings = l.settings in
    (l.setting ≤ 2 ^ settings.inputs) × (l.count ≡ 2 ^ settings.inputs) × (length l.sound ≡ length l.initial.sound)
    × Filled settings.settled.now l.sound settings.inputs l.setting l.k
