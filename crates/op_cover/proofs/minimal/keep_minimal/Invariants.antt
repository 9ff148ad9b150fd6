-- `minimal::keep_minimal` meets its contract: the bytes passed are cleared or right, the others as they were
-- (`OnlyMinimal`).
use Prim.Native.Nat.{◌≤◌}
use mathlib.Core.Path.{◌≡◌}
use lib.ListN.{length}
use Rattle.theory_cover.specs.Entries.{OnlyMinimal}
use Rattle.op_cover.proofs.minimal.keep_minimal.Given as goal

abbrev pub invariant-loop-k : goal.invariant-loop-k
invariant-loop-k l =
    record {
      within : l.k ≤ length l.initial.sound;
      fewer : l.count ≤ l.k;
      same_length : length l.sound ≡ length l.initial.sound;
      minimal : OnlyMinimal l.initial.sound l.sound l.n l.k l.count;
    }
