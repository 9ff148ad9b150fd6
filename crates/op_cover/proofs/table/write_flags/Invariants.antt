-- `op_cover::table::write_flags` meets its contract: after s turns s bytes are written.
use mathlib.Core.Path.{◌≡◌}
use Prim.Native.Nat.{◌≤◌}
use lib.ListN.{length}
use Rattle.op_cover.specs.Table.{flagged}
use Rattle.op_cover.proofs.table.write_flags.Given as goal

abbrev pub invariant-loop-s : goal.invariant-loop-s
invariant-loop-s l =
    record {
      within : l.s ≤ l.lanes;
      flags_are : l.flags ≡ flagged l.word l.base l.s l.initial.flags;
      same_length : length l.flags ≡ length l.initial.flags;
    }
