-- The turns of a call, two for each record: turn t belongs to batch t / 128, of 64 records or what is left of them; it
-- reads one of them, or once all are read answers one.
--   size_at, reads_at, record_at  the size of a turn's batch, whether the turn reads, and its place
--   BatchAdvanced                   the batch after a turn
--   Answerable, turned         what a turn that answers asks, and the record that a turn leaves
-- Assumes nothing.
use Rattle.std.specs.Prelude.{◌≡◌, Bool, false, cond, List, ℕ, suc, ◌+◌, ◌-◌, ◌*◌, ◌/◌, ◌%◌, ◌≤◌, ◌<◌, ltb, set}
use Rattle.netlist.specs.declared.Record.{Record}
use Rattle.netlist.specs.StoredBlock.{decode, is_malformed}
use Rattle.netlist.specs.Sheet.{answered_record}
use Rattle.op_sheet.specs.declared.turns.Batch.{Batch}
use Rattle.op_sheet.specs.Records.{ShownFor, SettledLanes}
use Rattle.op_sheet.specs.Side.{Room}

-- the smaller of 64 and how many records are left
abbrev pub size_at : ℕ → ℕ → ℕ
size_at count t = 64 - (64 - (count - 64 * (t / 128)))

unfoldable pub reads_at : ℕ → ℕ → Bool
reads_at count t = ltb (t % 128) (size_at count t)

unfoldable pub record_at : ℕ → ℕ → ℕ
record_at count t = 64 * (t / 128) + cond (reads_at count t) (t % 128) (t % 128 - size_at count t)

-- a turn that reads adds the record's masks, the last of them settles the batch, and one that answers leaves it
pub record BatchAdvanced (ws : List ℕ) (count t : ℕ) (z : Record) (b after : Batch) : Type 0 where
  pub room : Room after
  pub fixed : t % 128 < size_at count t → after.fixed ≡ set b.fixed (t % 128) z.fixed
  pub ones : t % 128 < size_at count t → after.ones ≡ set b.ones (t % 128) z.ones
  pub settled : suc (t % 128) ≡ size_at count t
      → SettledLanes ws (size_at count t) after.fixed after.ones after.shown
  pub kept : size_at count t ≤ t % 128 → after ≡ b

-- what the answer to two masks asks
pub record Answerable (ws : List ℕ) (s fixed ones : ℕ) (shown : List ℕ) : Type 0 where
  pub whole : is_malformed ws ≡ false
  pub below : s < 64
  pub shows : ShownFor ws fixed ones s shown

-- the record that turn t leaves where it found z
unfoldable pub turned : List ℕ → ℕ → ℕ → Record → Record
turned ws count t z = cond (reads_at count t) z (answered_record (decode ws) z)
