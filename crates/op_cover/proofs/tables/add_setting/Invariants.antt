-- `tables::add_setting` meets its contract: while the setting's inputs are at 1 (`Joining`), both halves stand right
-- below `end`.
use Prim.Native.Nat.{◌-◌}
use mathlib.Core.Path.{◌≡◌}
use lib.ListN.{length}
use Rattle.op_cover.proofs.Joining.{Joining}
use Rattle.op_cover.proofs.tables.add_setting.Given as goal

abbrev pub invariant-loop-i : goal.invariant-loop-i
invariant-loop-i l =
    record {
      same_length : length l.sound ≡ length l.initial.sound;
      joining : Joining l.settings.settled.now l.sound l.settings.inputs l.setting l.end l.power l.i;
    }

abbrev pub decreases-loop-i : goal.decreases-loop-i
decreases-loop-i l = l.settings.inputs - l.i
