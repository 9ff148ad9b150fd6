-- `everywhere::write_nothing` meets its contract: one law for each of its two answers.
use Rattle.op_cover.proofs.Listing.{nothing_written}
use Rattle.op_cover.proofs.everywhere.write_nothing.Goals as goal

pub returns-then-out-ge2 : goal.returns-then-out-ge2
returns-then-out-ge2 c = search nothing_written
