-- What comparing asks of two blocks, and what a batch of settings holds. Ours is the original and may have loops;
-- theirs is straight. Cited by the contracts of this crate. Assumes nothing.
use Rattle.std.specs.Prelude.{ℕ, ◌≡◌, true, false, List, get_or}
use Rattle.netlist.specs.StoredBlock.{decode, is_malformed}
use Rattle.netlist.specs.Rendering.{is_straight}
use Rattle.lanes_batch.specs.Layered.{StraightPlanned}
use Rattle.lanes_settings.specs.Lanes.{Judged}

-- both blocks are whole, theirs is straight, and they have as many inputs and outputs
pub record BlockPair (ours theirs : List ℕ) : Type 0 where
  pub our-whole : is_malformed ours ≡ false
  pub their-whole : is_malformed theirs ≡ false
  pub straight : is_straight (decode theirs) ≡ true
  pub inputs : get_or theirs 0 0 ≡ get_or ours 0 0
  pub outputs : get_or theirs 2 0 ≡ get_or ours 2 0

-- the graph of their block is made
pub record CompareReady (ours theirs their_graph : List ℕ) : Type 0 where
  pub pair : BlockPair ours theirs
  pub their_plan : StraightPlanned theirs their_graph

-- the lanes hold the settled values of both blocks in the batch at `base`
pub record BothJudged (ours theirs : List ℕ) (base : ℕ) (w others : List ℕ) : Type 0 where
  pub pair : BlockPair ours theirs
  pub our-values : Judged ours (get_or ours 0 0) base w
  pub their-values : Judged theirs (get_or ours 0 0) base others
