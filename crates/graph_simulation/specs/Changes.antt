-- Event-driven simulation: a round that evaluates only gates that read a gate that changed in the round before.
-- `values` has the codes of the state before the round, by place, `found` those of the gates behind it, and the queue
-- the gates that changed, in the order in which they did. Cited by the contracts of this crate. Assumes nothing.
--   Done, Steady, UpdateReady   what is asked of the values
--   Updated                     what evaluating some gates does
--   Round, Turned               between two rounds, and from one to the next
use Rattle.std.specs.Prelude.{ℕ, suc, ◌+◌, ◌*◌, ◌/◌, ◌≤◌, ◌<◌, ◌≡◌, ◌⊎◌, true, not, List, length, get_or, eqb}
use Rattle.prelude.specs.Lists.{count_below}
use Rattle.netlist.specs.Limits.{max_gates}
use Rattle.netlist.specs.Groups.{reads}
use Rattle.netlist.specs.Rounds.{round}
use Rattle.theory_fixpoint.specs.Order.{BelowAll}
use Rattle.graph_gates.specs.Places.{first_gate}
use Rattle.graph_gates.specs.Graph.{slots, network, Graph}
use Rattle.graph_gates.specs.Fanout.{Chain, Descends}
use Rattle.graph_simulation.specs.State.{Coded, inputs_in, state_in, gate_code}

-- how many of the m codes from a place on are not 2, so 0 or 1
unfoldable pub defined_from : ℕ → List ℕ → ℕ → ℕ
defined_from p codes m = count_below (λ j. not (eqb (get_or codes (p + j) 0) 2)) m

-- gate k stands in the queue, not before `head` and before `tail`
abbrev pub QueuedIn : List ℕ → ℕ → ℕ → ℕ → Type 0
QueuedIn queue head tail k = (q : ℕ) × (head ≤ q) × (q < tail) × (get_or queue q 0 ≡ k)

-- gate j's value is the one evaluated from `values`
abbrev pub Done : List ℕ → List ℕ → List ℕ → ℕ → Type 0
Done graph values found j = get_or found j 0 ≡ gate_code graph values j

-- each gate that is 0 or 1 has the value that is evaluated from `values`: it need not be evaluated
abbrev pub Steady : ℕ → List ℕ → List ℕ → List ℕ → Type 0
Steady m graph values found = (j : ℕ) → j < m → (get_or found j 0 ≡ 2) ⊎ Done graph values found j

-- a graph, room for its gates, and a queue as long as the gates that are 0 or 1
pub record UpdateReady (m : ℕ) (graph values found queue : List ℕ) (end : ℕ) : Type 0 where
  pub legal : Graph m graph
  pub coded : Coded values
  pub found_room : length found ≡ max_gates
  pub queue_room : length queue ≡ max_gates
  pub steady : Steady m graph values found
  pub counted : end ≡ defined_from 0 found m

-- some gates were evaluated: those that changed are queued, from `end` to `end'`
pub record Updated (m : ℕ) (graph values found queue : List ℕ) (end : ℕ) (found' queue' : List ℕ) (end' : ℕ) : Type 0
  where
    pub found_long : length found' ≡ length found
    pub queue_long : length queue' ≡ length queue
    pub each : (j : ℕ) → j < m → (get_or found' j 0 ≡ get_or found j 0)
        ⊎ (Done graph values found' j × QueuedIn queue' end end' j)
    pub front : (q : ℕ) → q < end → get_or queue' q 0 ≡ get_or queue q 0
    pub inside : (q : ℕ) → end ≤ q → q < end' → get_or queue' q 0 < m
    pub ordered : end ≤ end'
    pub counted : end' + defined_from 0 found m ≡ end + defined_from 0 found' m

-- a list of the fan-out whose slots are those of gates of the graph
pub record ListReady (m : ℕ) (fanout : List ℕ) (from : ℕ) : Type 0 where
  pub descends : Descends fanout
  pub starts : from ≤ slots * m

-- gate j was evaluated, and queued if it changed
pub record UpdatedOne (m : ℕ) (graph values found queue : List ℕ) (end j : ℕ) (found' queue' : List ℕ)
    (end' : ℕ) : Type 0 where
  pub updated : Updated m graph values found queue end found' queue' end'
  pub done : Done graph values found' j

-- the gates in a list of the fan-out were evaluated, and queued where they changed
pub record UpdatedList (m : ℕ) (graph fanout values found queue : List ℕ) (end from : ℕ) (found' queue' : List ℕ)
    (end' : ℕ) : Type 0 where
  pub updated : Updated m graph values found queue end found' queue' end'
  pub done : (e : ℕ) → Chain fanout (suc e) from → Done graph values found' (e / slots)

-- all gates were evaluated, and queued where they changed
pub record UpdatedAll (m : ℕ) (graph values found queue : List ℕ) (end : ℕ) (found' queue' : List ℕ) (end' : ℕ) : Type 0
  where
    pub updated : Updated m graph values found queue end found' queue' end'
    pub done : (j : ℕ) → j < m → Done graph values found' j

-- gate j has the value that is evaluated from `values`, or reads a gate that is queued
abbrev pub Pending : ℕ → List ℕ → List ℕ → List ℕ → List ℕ → ℕ → ℕ → Type 0
Pending m graph values found queue head tail =
    (j : ℕ) → j < m → Done graph values found j
    ⊎ ((k : ℕ) × (reads (network m graph) j k ≡ true) × QueuedIn queue head tail k)

-- the queued gates are gates of the graph, and there is room for their values
pub record CopyReady (queue : List ℕ) (tail : ℕ) (values : List ℕ) : Type 0 where
  pub long : first_gate + max_gates ≡ length values
  pub queued : tail ≤ max_gates
  pub inside : (q : ℕ) → q < tail → get_or queue q 0 < max_gates

-- the queued gates have their new values at their places, and the others the old ones; what stands below the gates is
-- as it was
pub record Copied (found queue : List ℕ) (head tail : ℕ) (values values' : List ℕ) : Type 0 where
  pub long : length values' ≡ length values
  pub low : (p : ℕ) → p < first_gate → get_or values' p 0 ≡ get_or values p 0
  pub each : (j : ℕ) → (QueuedIn queue head tail j × (get_or values' (first_gate + j) 0 ≡ get_or found j 0))
      ⊎ ((QueuedIn queue head tail j → ⊥) × (get_or values' (first_gate + j) 0 ≡ get_or values (first_gate + j) 0))

-- `found` is a round later than `values`, and the queue has the gates that changed in it from `head` to `tail`
pub record Round (m : ℕ) (graph values found queue : List ℕ) (head tail : ℕ) : Type 0 where
  pub coded : Coded values
  pub found_room : length found ≡ max_gates
  pub queue_room : length queue ≡ max_gates
  pub done : (j : ℕ) → j < m → Done graph values found j
  pub grows : BelowAll (state_in m values) (round (network m graph) (inputs_in values) (state_in m values))
  pub told : (j : ℕ) → j < m → (get_or found j 0 ≡ get_or values (first_gate + j) 0) ⊎ QueuedIn queue head tail j
  pub inside : (q : ℕ) → q < tail → get_or queue q 0 < m
  pub ordered : head ≤ tail
  pub before : head ≡ defined_from first_gate values m
  pub counted : tail ≡ defined_from 0 found m

-- one round more than before: `values` has what was found
pub record Turned (m : ℕ) (graph values values' found' queue' : List ℕ) (tail end : ℕ) : Type 0 where
  pub made : Round m graph values' found' queue' tail end
  pub inputs : inputs_in values' ≡ inputs_in values
  pub state : state_in m values' ≡ round (network m graph) (inputs_in values) (state_in m values)
