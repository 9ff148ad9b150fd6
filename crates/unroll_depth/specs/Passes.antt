-- The passes that one group needs for the settings of one batch.
--   Held, Ran, Stepped       gates evaluated on pairs of words
--   Least                    a number of passes of which none is too many
--   Passed, Kept             the pairs after so many passes, and the settled ones beside them
--   GroupBatch, SoFar, PassReady, MorePasses, GroupReady, GroupCounted   one group for the settings of a batch
--   Listing                  where the groups of a block stand, one after the other
-- Assumes nothing.
use Rattle.std.specs.Prelude.{ℕ, ◌+◌, ◌-◌, ◌*◌, ◌%◌, ◌≤◌, ◌<◌, ◌≡◌, ◌⊎◌, Bool, true, false, List, map, length, get_or}
use Rattle.prelude.specs.Lists.{member, sum}
use Rattle.netlist.specs.Values.{undefined}
use Rattle.netlist.specs.Limits.{max_gates, max_copies}
use Rattle.netlist.specs.Netlist.{Block, gate_count}
use Rattle.netlist.specs.StoredBlock.{decode, is_malformed}
use Rattle.netlist.specs.Rounds.{setting_count, settled_under, is_excluded}
use Rattle.netlist.specs.Groups.{groups}
use Rattle.netlist.specs.Steps.{run}
use Rattle.netlist.specs.Passes.{after_passes, are_settled, are_enough}
use Rattle.graph_gates.specs.Places.{first_gate}
use Rattle.graph_gates.specs.Graph.{Decoded}
use Rattle.theory_unrolling.specs.Copies.{group_at}
use Rattle.lanes_dual_rail.specs.Pairs.{lane, full}
use Rattle.lanes_dual_rail.specs.PairRounds.{AllProper}
use Rattle.lanes_dual_rail.specs.Batches.{lanes_of}
use Rattle.lanes_dual_rail.specs.LaneWords.{pair_at, inputs_in, gates_in, Filled}
use Rattle.lanes_batch.specs.Layered.{GatesEvaluated, OrderPart, part, start_inputs, LanesSettled}
use Rattle.unroll_depth.specs.declared.passes.Turn.{Turn}
use Rattle.unroll_depth.specs.declared.passes.Counted.{Counted}
use Rattle.unroll_depth.specs.Pairs.{group_of, Apart, ProperAt}

-- ---- gates evaluated on pairs of words

-- proper pairs of the constants, the inputs and the gates
pub record Held (b : Block) (n : ℕ) (w : List ℕ) : Type 0 where
  pub filled : Filled (full (lanes_of n)) w
  pub inputs_proper : AllProper (lanes_of n) (inputs_in w)
  pub gates_proper : AllProper (lanes_of n) (gates_in (gate_count b) w)

-- the gates listed were evaluated one after the other, each pair stored at once
pub record Ran (graph js w after : List ℕ) : Type 0 where
  pub changed : Bool
  pub evaluated : GatesEvaluated graph w js after changed

-- the gates listed were evaluated one after the other, as seen at every lane
pub record Stepped (b : Block) (n : ℕ) (js w after : List ℕ) : Type 0 where
  pub held : Held b n after
  pub inputs_kept : inputs_in after ≡ inputs_in w
  pub outside : (p : ℕ) → Apart js p → pair_at after p ≡ pair_at w p
  pub lanewise : (s : ℕ) → s < lanes_of n
      → map (lane s) (gates_in (gate_count b) after)
      ≡ run b (map (lane s) (inputs_in w)) js (map (lane s) (gates_in (gate_count b) w))

-- ---- one group, for the settings of the batch at `base`

-- at least one pass, and not one more than some setting needs
pub record Least (b : Block) (group : List ℕ) (p : ℕ) : Type 0 where
  pub some : 1 ≤ p
  pub fewer : (p ≡ 1) ⊎ (are_enough b group (p - 1) ≡ false)

-- at every lane the gates have the values that so many passes leave
pub record Passed (b : Block) (n base : ℕ) (group : List ℕ) (p : ℕ) (w : List ℕ) : Type 0 where
  pub held : Held b n w
  pub inputs : inputs_in w ≡ start_inputs n base
  pub lanewise : (s : ℕ) → s < lanes_of n → map (lane s) (gates_in (gate_count b) w) ≡ after_passes b group (base + s) p

-- the settled pairs of the group's gates
pub record Kept (b : Block) (n base : ℕ) (group w : List ℕ) : Type 0 where
  pub proper : ProperAt (lanes_of n) group w
  pub settled_at : (s : ℕ) → s < lanes_of n → (j : ℕ) → member j group ≡ true
      → lane s (pair_at w (first_gate + j)) ≡ get_or (settled_under b (base + s)) j undefined

-- a batch of a block's settings, and a group of some gates
pub record GroupBatch (ws graph members : List ℕ) (turn : Turn) : Type 0 where
  pub whole : is_malformed ws ≡ false
  pub decoded : Decoded (decode ws) (gate_count (decode ws)) graph
  pub aligned : turn.base % 64 ≡ 0
  pub settings : turn.base + lanes_of (get_or ws 0 0) ≤ setting_count (decode ws)
  pub positions : OrderPart (gate_count (decode ws)) members turn.from turn.end
  pub some : turn.from < turn.end

-- the passes counted so far, and the copies of all groups
pub record SoFar (b : Block) (group : List ℕ) (c : Counted) : Type 0 where
  pub least : Least b group c.passes
  pub copies : length group * c.passes ≤ c.total
  pub most : c.total ≤ max_copies + max_copies

pub record PassReady (ws graph members : List ℕ) (turn : Turn) (c : Counted) (w settled : List ℕ) : Type 0 where
  pub batch : GroupBatch ws graph members turn
  pub so_far : SoFar (decode ws) (group_of members turn) c
  pub passed : Passed (decode ws) (get_or ws 0 0) turn.base (group_of members turn) c.passes w
  pub kept : Kept (decode ws) (get_or ws 0 0) turn.base (group_of members turn) settled

-- r are the passes needed for the settings before and for those of the batch, unless the copies are too many
pub record GroupCounted (b : Block) (n base : ℕ) (group : List ℕ) (c r : Counted) : Type 0 where
  pub more : c.passes ≤ r.passes
  pub total_is : r.total + length group * c.passes ≡ c.total + length group * r.passes
  pub so_far : SoFar b group r
  pub enough : r.total ≤ max_copies → (s : ℕ) → s < lanes_of n → is_excluded b (base + s) ≡ false
      → are_settled b group (base + s) r.passes ≡ true

pub record MorePasses (b : Block) (n base : ℕ) (group : List ℕ) (c : Counted) (w after : List ℕ)
    (r : Counted) : Type 0 where
  pub counted : GroupCounted b n base group c r
  pub long : length after ≡ length w
  pub outside : (p : ℕ) → Apart group p → pair_at after p ≡ pair_at w p

pub record GroupReady (ws graph members : List ℕ) (turn : Turn) (c : Counted) (w : List ℕ) : Type 0 where
  pub batch : GroupBatch ws graph members turn
  pub so_far : SoFar (decode ws) (group_of members turn) c
  pub settled : LanesSettled (decode ws) (get_or ws 0 0) turn.base w

-- ---- all groups

-- group g stands in `members` from `starts[g]` up to `starts[g + 1]`
pub record Listing (b : Block) (count : ℕ) (members starts : List ℕ) : Type 0 where
  pub count_is : count ≡ length (groups b)
  pub members_long : gate_count b ≡ sum (map length (groups b))
  pub few : gate_count b ≤ max_gates
  pub few_groups : count ≤ max_gates
  pub ordered : (g : ℕ) → g < count → get_or starts g 0 ≤ get_or starts (g + 1) 0
  pub within : (g : ℕ) → g < count → get_or starts (g + 1) 0 ≤ gate_count b
  pub group_is : (g : ℕ) → g < count → part false members (get_or starts g 0) (get_or starts (g + 1) 0) ≡ group_at b g
