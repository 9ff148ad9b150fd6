-- `words_layout::trim::trimmed_length` meets its contract: what was passed over, from the end, is zero.
use Prim.Native.Nat.{◌≤◌}
use mathlib.Core.Path.{◌≡◌}
use lib.ListN.{length, take}
use Rattle.prelude.specs.Lists.{trimmed}
use Rattle.words_layout.proofs.trim.trimmed_length.Given as goal

abbrev pub invariant-loop-i : goal.invariant-loop-i
invariant-loop-i l =
    record { within : l.i ≤ length l.bytes; same : trimmed (take l.i l.bytes) ≡ trimmed l.bytes }
