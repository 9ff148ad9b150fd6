-- The search's clock, and what the check of its answer finds position by position. Cited by the contracts of this crate
-- alone. Assumes nothing.
--   clock_end     the last time of a search
--   StandingReady, LeftOne   the numbers of a search
--   OneLayer     all gates as one loop
--   SlotGate     the gate that a slot reads
--   LayerStep    what the check finds of one position; `positions` says where each gate stands in the order
--   Layered      what it finds of all
use Rattle.std.specs.Prelude.{ℕ, ◌+◌, ◌≤◌, ◌<◌, ◌≡◌, ◌⊎◌, List, get_or}
use Rattle.std.specs.declared.option.Option.{Option}
use Rattle.std.specs.Option.{MatchOption}
use Rattle.netlist.specs.Limits.{max_gates}
use Rattle.graph_gates.specs.Places.{first_gate}
use Rattle.graph_gates.specs.Graph.{slots, place_at, Graph}

-- the code's search::CLOCK
abbrev pub clock_end : ℕ
clock_end = 8191

-- a standing's numbers: a gate waits or is written at most once a turn
pub record StandingReady (time top count : ℕ) : Type 0 where
  pub ended : time ≤ clock_end
  pub low : top ≤ max_gates
  pub few : count + top ≤ time

-- one gate more waits or is written
pub record LeftOne (top count top' count' : ℕ) : Type 0 where
  pub low : top' ≤ max_gates
  pub more : count' + top' ≤ count + top + 1

-- r is the gate that slot s of gate k reads, if it reads one
abbrev pub SlotGate : ℕ → List ℕ → ℕ → ℕ → Option ℕ → Type 0
SlotGate m graph k s r =
    MatchOption r ((j : ℕ) → place_at graph k s ≡ first_gate + j → ⊥)
    (λ j. (j < m) × (place_at graph k s ≡ first_gate + j))

-- slot s of gate j reads no gate, or one that stands before `end`
pub record SlotBefore (graph positions : List ℕ) (j end s : ℕ) : Type 0 where
  pub before : (k : ℕ) → place_at graph j s ≡ first_gate + k → get_or positions k 0 < end

-- every gate that gate j reads stands before `end`
abbrev pub Before : List ℕ → List ℕ → ℕ → ℕ → Type 0
Before graph positions j end = (s : ℕ) → s < slots → SlotBefore graph positions j end s

-- position i ends its layer, is one of no loop, or has the same end as the position behind it
abbrev pub EndStep : ℕ → List ℕ → ℕ → Type 0
EndStep m ends i =
    (get_or ends i 0 ≡ i)
    ⊎ ((i < get_or ends i 0) × (get_or ends i 0 ≤ m) × ((get_or ends i 0 ≡ i + 1) ⊎ (get_or ends (i + 1) 0 ≡ get_or ends i 0)))

-- gate order[i] stands at i, and gate i where `positions` says
pub record Listed (m : ℕ) (order positions : List ℕ) (i : ℕ) : Type 0 where
  pub inside : get_or order i 0 < m
  pub found : get_or positions (get_or order i 0) 0 ≡ i
  pub below : get_or positions i 0 < m
  pub stands : get_or order (get_or positions i 0) 0 ≡ i

pub record LayerStep (m : ℕ) (graph order ends positions : List ℕ) (i : ℕ) : Type 0 where
  pub listed : Listed m order positions i
  pub end : EndStep m ends i
  pub before : Before graph positions (get_or order i 0) (get_or ends i 0)

-- the layers are right at every position
pub record Layered (m : ℕ) (graph order ends positions : List ℕ) : Type 0 where
  pub legal : Graph m graph
  pub steps : (i : ℕ) → i < m → LayerStep m graph order ends positions i

-- the first i gates as they come, all in one loop of m gates
pub record OneLayer (m i : ℕ) (order ends : List ℕ) : Type 0 where
  pub as_they_come : (k : ℕ) → k < i → get_or order k 0 ≡ k
  pub all_end : (k : ℕ) → k < i → get_or ends k 0 ≡ m
