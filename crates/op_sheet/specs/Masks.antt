-- The words of specs/Records.antt of the masks of records as one value. Cited by the contracts of `inputs` and
-- `settling`. Assumes nothing.
--   pair_of        the pair of an input
--   MasksStarted, MasksSettled    the lanes before they are settled; what each lane shows then
use Rattle.std.specs.Prelude.{ℕ, List}
use Rattle.lanes_dual_rail.specs.declared.Pair.{Pair}
use Rattle.op_sheet.specs.declared.records.Masks.{Masks}
use Rattle.op_sheet.specs.Records.{record_pair, RecordsStarted, SettledLanes}

abbrev pub pair_of : Masks → ℕ → Pair
pair_of r i = record_pair r.count r.fixed.now r.ones.now i

abbrev pub MasksStarted : ℕ → ℕ → Masks → List ℕ → Type 0
MasksStarted m n r w = RecordsStarted m n r.count r.fixed.now r.ones.now w

abbrev pub MasksSettled : List ℕ → Masks → List ℕ → Type 0
MasksSettled ws r shown = SettledLanes ws r.count r.fixed.now r.ones.now shown
