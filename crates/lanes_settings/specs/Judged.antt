-- A batch that was decided, as one value. Cited by the contracts of `settled` and of those that walk over batches.
-- Assumes nothing.
use Rattle.std.specs.Prelude.{Bool, ℕ, get_or}
use Rattle.netlist.specs.Netlist.{Block}
use Rattle.netlist.specs.StoredBlock.{outputs_at, decode}
use Rattle.lanes_dual_rail.specs.declared.Pair.{Pair}
use Rattle.lanes_settings.specs.Lanes.{output_pair}
use Rattle.lanes_dual_rail.specs.Batches.{lanes_of}
use Rattle.lanes_dual_rail.specs.Words.{Tells}
use Rattle.lanes_settings.specs.declared.settled.JudgedBatch.{JudgedBatch}

-- the pair of output o
abbrev pub pair_shown : JudgedBatch → ℕ → Pair
pair_shown batch o =
    let ws = batch.words.now in
    output_pair ws (outputs_at (get_or ws 0 0) (get_or ws 3 0) (get_or ws 1 0)) (get_or ws 0 0) batch.lanes.now o

-- the word marks the lanes whose setting passes this test of the block's settings
abbrev pub TellsIn : JudgedBatch → (Block → ℕ → Bool) → ℕ → Type 0
TellsIn batch test word =
    let ws = batch.words.now in Tells (lanes_of (get_or ws 0 0)) batch.base (test (decode ws)) word
