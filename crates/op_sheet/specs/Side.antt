-- The arrays of a batch of records. Assumes nothing.
use Rattle.std.specs.Prelude.{◌≡◌, length}
use Rattle.op_sheet.specs.declared.turns.Batch.{Batch}

pub record Room (b : Batch) : Type 0 where
  pub fixed_room : length b.fixed ≡ 64
  pub ones_room : length b.ones ≡ 64
  pub shown_room : length b.shown ≡ 32
