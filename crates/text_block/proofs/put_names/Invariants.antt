-- `text_block::put_names` meets its contract: one name a turn.
use mathlib.Core.Path.{◌≡◌}
use Prim.Native.Nat.{◌≤◌}
use lib.ListN.{length}
use lib.Seq.{sets}
use Rattle.prelude.specs.Lists.{tab, joined}
use Rattle.text_block.specs.Words.{name_of}
use Rattle.text_block.proofs.put_names.Given as goal

abbrev pub invariant-loop-i : goal.invariant-loop-i
invariant-loop-i l =
    (l.i ≤ length l.names) × (l.block ≡ sets l.initial.block 4 (joined (tab (name_of l.names) l.i))) × (length l.block ≡ length l.initial.block)
