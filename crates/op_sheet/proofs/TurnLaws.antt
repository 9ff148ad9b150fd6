-- The batch after a turn, and the turns one after the other.
--   advanced-kept, advanced-read, advanced-full   a turn that answers, one that reads, and the last one that reads
-- Assumes nothing.
use mathlib.Core.Path.{◌≡◌, refl, ◌∙◌}
use mathlib.Core.List.{List}
use Prim.Native.Nat.{ℕ, ◌+◌, ◌%◌, ◌≤◌, ◌<◌}
use native.Mathlib.Omega.{arith}
use lib.ListN.{length, set, length-set}
use Rattle.netlist.specs.declared.Record.{Record}
use Rattle.op_sheet.specs.declared.turns.Batch.{Batch}
use Rattle.op_sheet.specs.Records.{SettledLanes}
use Rattle.op_sheet.specs.Side.{Room}
use Rattle.op_sheet.specs.Order.{size_at, BatchAdvanced}

-- the batch with the masks of one record more
abbrev more : Batch → ℕ → Record → List ℕ → Batch
more b s z shown = record { fixed = set b.fixed s z.fixed; ones = set b.ones s z.ones; shown = shown }

more_room : {b : Batch} (s : ℕ) (z : Record) (shown : List ℕ) → Room b → length shown ≡ 32 → Room (more b s z shown)
more_room {b} s z shown room e =
    record {
      fixed_room = length-set b.fixed s z.fixed ∙ room.fixed_room;
      ones_room = length-set b.ones s z.ones ∙ room.ones_room;
      shown_room = e;
    }

module _ {ws : List ℕ} {count t : ℕ} {z : Record} {b : Batch} (room : Room b) where
  pub advanced-kept : size_at count t ≤ t % 128 → BatchAdvanced ws count t z b b
  advanced-kept h =
      record {
        room = room;
        fixed = λ l. absurd (omega arith);
        ones = λ l. absurd (omega arith);
        settled = λ e. absurd (omega arith);
        kept = λ l. refl;
      }

  pub advanced-read : t % 128 + 1 < size_at count t → BatchAdvanced ws count t z b (more b (t % 128) z b.shown)
  advanced-read h =
      record {
        room = more_room (t % 128) z b.shown room room.shown_room;
        fixed = λ l. refl;
        ones = λ l. refl;
        settled = λ e. absurd (omega arith);
        kept = λ l. absurd (omega arith);
      }

  pub advanced-full : {shown : List ℕ} → t % 128 < size_at count t
      → SettledLanes ws (size_at count t) (set b.fixed (t % 128) z.fixed) (set b.ones (t % 128) z.ones) shown
      → BatchAdvanced ws count t z b (more b (t % 128) z shown)
  advanced-full {shown} h s =
      record {
        room = more_room (t % 128) z shown room s.long;
        fixed = λ l. refl;
        ones = λ l. refl;
        settled = λ e. s;
        kept = λ l. absurd (omega arith);
      }
