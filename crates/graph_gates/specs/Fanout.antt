-- The fan-out of a graph: the slots that read each gate, as linked lists in one array. Slot i of gate j has number 4 j
-- + i; word k has the first slot of gate k's list, and word max_gates + e the one behind slot e. A number stands there
-- plus 1, and 0 ends a list. Cited by the contracts of this crate, of crates/graph_simulation and of crates/op_groups.
-- Assumes nothing.
--   slot_place   the place that a slot reads
--   Chain       a slot is in the list that starts at another
--   Fanout      what is promised: a gate's list has the slots that read it and no others, and lists descend
--   Linking     the slots below a number are in their lists
use Rattle.std.specs.Prelude.{ℕ, suc, ◌+◌, ◌-◌, ◌*◌, ◌/◌, ◌≤◌, ◌<◌, ◌≡◌, cond, List, length, get_or, set, leb}
use Rattle.netlist.specs.Limits.{max_gates}
use Rattle.graph_gates.specs.Places.{first_gate}
use Rattle.graph_gates.specs.Graph.{slots}

-- the words of a fan-out: one for every gate and one for every slot
abbrev pub fanout_size : ℕ
fanout_size = max_gates + slots * max_gates

-- the place that slot e reads; four slots stand behind each operation
unfoldable pub slot_place : List ℕ → ℕ → ℕ
slot_place graph e = get_or graph (e + e / slots + 1) 0

-- slot p is in the list that starts at an index
pub data Chain (fanout : List ℕ) (p : ℕ) : ℕ → Type 0 where
  at : Chain fanout p p
  behind : {q : ℕ} → Chain fanout p (get_or fanout (max_gates + q) 0) → Chain fanout p (suc q)

-- each list goes down, so that it ends
abbrev pub Descends : List ℕ → Type 0
Descends fanout = (e : ℕ) → get_or fanout (max_gates + e) 0 ≤ e

-- the fan-out of m gates: a list for each of them
pub record Fanout (m : ℕ) (graph fanout : List ℕ) : Type 0 where
  pub long : length fanout ≡ fanout_size
  pub descends : Descends fanout
  pub starts : (k : ℕ) → k < max_gates → get_or fanout k 0 ≤ slots * m
  pub found : (e k : ℕ) → e < slots * m → k < max_gates → slot_place graph e ≡ first_gate + k
      → Chain fanout (suc e) (get_or fanout k 0)
  pub only : (e k : ℕ) → k < max_gates → Chain fanout (suc e) (get_or fanout k 0) → slot_place graph e ≡ first_gate + k

-- a fan-out in which no slot is in a list yet: nothing but zeros
pub record Empty (fanout : List ℕ) : Type 0 where
  pub long : length fanout ≡ fanout_size
  pub zeros : (k : ℕ) → get_or fanout k 0 ≡ 0

-- a slot that is there, and room to put it in a list
pub record LinkReady (graph : List ℕ) (e : ℕ) (fanout : List ℕ) : Type 0 where
  pub below : e < slots * max_gates
  pub inside : slot_place graph e < first_gate + max_gates
  pub long : length fanout ≡ fanout_size

-- slot e, which reads this place, is put in front of a gate's list
pub record Linked (place e : ℕ) (fanout fanout' : List ℕ) : Type 0 where
  pub is : fanout'
      ≡ cond (leb first_gate place) (set (set fanout (max_gates + e) (get_or fanout (place - first_gate) 0))
      (place - first_gate) (suc e)) fanout

-- the slots with numbers below e are in their lists
pub record Linking (graph fanout : List ℕ) (e : ℕ) : Type 0 where
  pub long : length fanout ≡ fanout_size
  pub descends : Descends fanout
  pub starts : (k : ℕ) → k < max_gates → get_or fanout k 0 ≤ e
  pub found : (d k : ℕ) → d < e → k < max_gates → slot_place graph d ≡ first_gate + k
      → Chain fanout (suc d) (get_or fanout k 0)
  pub only : (d k : ℕ) → k < max_gates → Chain fanout (suc d) (get_or fanout k 0) → slot_place graph d ≡ first_gate + k
