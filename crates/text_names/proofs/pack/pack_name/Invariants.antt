-- `text_names::pack::pack_name` meets its contract: from the last byte down, one byte more in front.
use Prim.Native.Nat.{◌≤◌}
use mathlib.Core.Path.{◌≡◌}
use lib.ListN.{length, drop}
use Rattle.text_names.specs.Packed.{packed}
use Rattle.text_names.proofs.pack.pack_name.Given as goal

abbrev pub invariant-loop-i : goal.invariant-loop-i
invariant-loop-i l = record { within : l.i ≤ length l.name; packs : l.r ≡ packed (drop l.i l.name) }
