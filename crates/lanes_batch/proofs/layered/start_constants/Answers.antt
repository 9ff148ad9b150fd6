-- `lanes_batch::layered::start_constants` meets its contract: words of 0, then the constants.
use native.Mathlib.Omega.{arith}
use Rattle.lanes_batch.proofs.Starting.{constants-started}
use Rattle.lanes_batch.proofs.layered.start_constants.Goals as goal

pub returns : goal.returns
returns c =
    constants-started _ c.requires (omega arith) c.used_lanes-used.ensures c.clear_words.ensures c.put_pair.ensures
    c.put_pair-2.ensures
