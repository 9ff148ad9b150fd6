-- What the steps of Render need and leave. Cited by this crate's contracts. Assumes nothing.
use Rattle.std.specs.Prelude.{ℕ, ◌≤◌, ◌≡◌, true, false, List}
use Rattle.netlist.specs.Limits.{max_copies}
use Rattle.netlist.specs.Netlist.{Block}
use Rattle.netlist.specs.StoredBlock.{decode, is_malformed}
use Rattle.netlist.specs.Cover.{is_sound}
use Rattle.netlist.specs.Passes.{copy_count}
use Rattle.netlist.specs.Rendering.{schedule}
use Rattle.unroll_order.specs.declared.GroupPasses.{GroupPasses}
use Rattle.unroll_order.specs.GroupPasses.{gates_in}
use Rattle.unroll_order.specs.Listing.{PassesAre, parts_of}
use Rattle.unroll_depth.specs.Passes.{Listing}

-- a block's groups, which with the passes that they need are the order of its copies
pub record Listed (b : Block) (count : ℕ) (members starts : List ℕ) : Type 0 where
  pub listing : Listing b count members starts
  pub copies : (passes : List ℕ) → PassesAre b count passes → parts_of members starts passes count ≡ schedule b

-- the copies can be written
pub record CopiesReady (ws : List ℕ) (passes : GroupPasses) (total : ℕ) : Type 0 where
  pub whole : is_malformed ws ≡ false
  pub copies : gates_in passes ≡ schedule (decode ws)
  pub total_is : total ≡ copy_count (decode ws)
  pub fits : total ≤ max_copies

-- nothing can refuse any more but the room
pub record RenderingReady (ws : List ℕ) (passes : GroupPasses) (total : ℕ) : Type 0 where
  pub ready : CopiesReady ws passes total
  pub settled : is_sound (decode ws) ≡ true
