-- The passes that groups need, found group by group for one batch of settings after the other, and the lowest setting
-- that is not settled.
--   Counting, StartsFew, Full, BatchHeld, AllCounted   all groups
--   GroupAt, GroupDone, BatchReady   one group of a batch; all of them
--   LowestBelow, WalkReady, WalkedBatch, WalkedAll, Walked   the walk over batches
-- Assumes nothing.
use Rattle.std.specs.Prelude.{ℕ, ◌+◌, ◌*◌, ◌≤◌, ◌<◌, ◌≡◌, true, false, List, map, ltb, length, get_or}
use Rattle.prelude.specs.Lists.{sum, tab, placed}
use Rattle.netlist.specs.Limits.{max_gates, max_copies}
use Rattle.netlist.specs.Netlist.{Block, gate_count}
use Rattle.netlist.specs.StoredBlock.{decode}
use Rattle.netlist.specs.Rounds.{setting_count, is_excluded, is_sound_at, lowest_unsettled}
use Rattle.netlist.specs.Groups.{groups}
use Rattle.netlist.specs.Passes.{are_settled, pass_count, copy_count}
use Rattle.graph_gates.specs.Graph.{Decoded}
use Rattle.theory_unrolling.specs.Copies.{group_at}
use Rattle.lanes_dual_rail.specs.Batches.{lanes_of}
use Rattle.lanes_dual_rail.specs.LaneWords.{lane_size}
use Rattle.lanes_settings.specs.Lanes.{Judged}
use Rattle.unroll_depth.specs.Passes.{Least, Listing}
use Rattle.unroll_depth.specs.declared.Found.{Found}
use Rattle.unroll_depth.specs.declared.walk.At.{At}
use Rattle.unroll_depth.specs.declared.walk.Batch.{Batch}

-- ---- all groups

-- the copies when the passes of each group are these
unfoldable pub copies_of : Block → ℕ → List ℕ → ℕ
copies_of b count passes = sum (tab (λ g. length (group_at b g) * get_or passes g 0) count)

-- the passes settle the group under every setting below `bound` that may come
abbrev pub EnoughBelow : Block → List ℕ → ℕ → ℕ → Type 0
EnoughBelow b group bound p = (s : ℕ) → s < bound → is_excluded b s ≡ false → are_settled b group s p ≡ true

-- The passes of all groups are enough for the settings below `base`, those of the first `done` groups for the settings
-- below `next`, unless the copies are too many; of no group are there too many.
pub record Counting (b : Block) (count base done next : ℕ) (passes : List ℕ) (total : ℕ) : Type 0 where
  pub least : (g : ℕ) → g < count → Least b (group_at b g) (get_or passes g 0)
  pub total_is : total ≡ copies_of b count passes
  pub most : total ≤ max_copies + max_copies
  pub before : total ≤ max_copies → (g : ℕ) → g < count → EnoughBelow b (group_at b g) base (get_or passes g 0)
  pub inside : total ≤ max_copies → (g : ℕ) → g < done → EnoughBelow b (group_at b g) next (get_or passes g 0)

-- each group starts and ends among the gates that a block may have
abbrev pub StartsFew : ℕ → List ℕ → Type 0
StartsFew count starts = (g : ℕ) → g < count → (get_or starts g 0 ≤ max_gates) × (get_or starts (g + 1) 0 ≤ max_gates)

-- each group has as many passes as gates
abbrev pub Full : ℕ → List ℕ → List ℕ → Type 0
Full count starts passes = (g : ℕ) → g < count → get_or starts (g + 1) 0 ≤ get_or starts g 0 + get_or passes g 0

-- behind the first `count` words nothing changed
pub record SameRest (count : ℕ) (entry words : List ℕ) : Type 0 where
  pub long : length words ≡ length entry
  pub rest : (g : ℕ) → count ≤ g → get_or words g 0 ≡ get_or entry g 0

-- the settled values of the batch at `base`
pub record BatchHeld (ws graph : List ℕ) (base : ℕ) (w : List ℕ) : Type 0 where
  pub judged : Judged ws (get_or ws 0 0) base w
  pub decoded : Decoded (decode ws) (gate_count (decode ws)) graph
  pub settings : base + lanes_of (get_or ws 0 0) ≤ setting_count (decode ws)

-- group number `group` of the batch at `base` can be counted
pub record GroupAt (ws graph members starts : List ℕ) (at : At) (passes w : List ℕ) : Type 0 where
  pub held : BatchHeld ws graph at.base w
  pub fits : at.total ≤ max_copies
  pub listing : Listing (decode ws) (length (groups (decode ws))) members starts
  pub there : at.group < length (groups (decode ws))
  pub counting : Counting (decode ws) (length (groups (decode ws))) at.base at.group
      (at.base + lanes_of (get_or ws 0 0)) passes at.total

-- it is counted, and the settled values are there again
pub record GroupDone (ws : List ℕ) (at : At) (passes w after v kept : List ℕ) (total : ℕ) : Type 0 where
  pub counting : Counting (decode ws) (length (groups (decode ws))) at.base (at.group + 1)
      (at.base + lanes_of (get_or ws 0 0)) after total
  pub same : SameRest (length (groups (decode ws))) passes after
  pub lanes : v ≡ w
  pub room : length kept ≡ lane_size

-- Each group's passes, and the copies that they make; where those are too many, a number above the limit is told.
pub record AllCounted (b : Block) (entry passes : List ℕ) (total : ℕ) : Type 0 where
  pub tells : ltb max_copies total ≡ ltb max_copies (copy_count b)
  pub total_is : total ≤ max_copies → total ≡ copy_count b
  pub passes_are : total ≤ max_copies → passes ≡ placed (map (pass_count b) (groups b)) entry

-- ---- the walk over batches

-- `lowest` is the lowest setting below `base` that may come and is not settled, or the number of settings, where there
-- is none
pub record LowestBelow (b : Block) (base lowest : ℕ) : Type 0 where
  pub within : lowest ≤ setting_count b
  pub known : lowest < setting_count b → lowest < base
  pub before : (i : ℕ) → i < base → i < lowest → is_sound_at b i ≡ true
  pub found : lowest < setting_count b → is_sound_at b lowest ≡ false

-- what was found in the batches before the one at `next`
pub record WalkedBatch (b : Block) (count next : ℕ) (entry passes : List ℕ) (r : Found) : Type 0 where
  pub counting : Counting b count next 0 next passes r.total
  pub same : SameRest count entry passes
  pub lowest : LowestBelow b next r.lowest

-- the groups of the batch at `base` can be counted, and its lowest setting looked for
pub record BatchReady (ws graph members starts : List ℕ) (batch : Batch) (passes w : List ℕ) : Type 0 where
  pub held : BatchHeld ws graph batch.base w
  pub listing : Listing (decode ws) batch.groups members starts
  pub counting : Counting (decode ws) batch.groups batch.base 0 batch.base passes batch.found.total
  pub lowest : LowestBelow (decode ws) batch.base batch.found.lowest

-- the walk over batches can start, from one pass for each group on
pub record WalkReady (ws : List ℕ) (count : ℕ) (members starts passes : List ℕ) : Type 0 where
  pub listing : Listing (decode ws) count members starts
  pub counting : Counting (decode ws) count 0 0 0 passes (get_or ws 1 0)

-- what was found in all batches, or in those before the copies are too many
pub record WalkedAll (b : Block) (count : ℕ) (entry passes : List ℕ) (r : Found) : Type 0 where
  pub reached : ℕ
  pub counting : Counting b count reached 0 reached passes r.total
  pub all : r.total ≤ max_copies → reached ≡ setting_count b
  pub same : SameRest count entry passes
  pub lowest : r.total ≤ max_copies → r.lowest ≡ lowest_unsettled b

-- what was found in all batches; the lowest setting is told where the copies are not too many
pub record Walked (b : Block) (entry passes : List ℕ) (r : Found) : Type 0 where
  pub counted : AllCounted b entry passes r.total
  pub lowest : r.total ≤ max_copies → r.lowest ≡ lowest_unsettled b
