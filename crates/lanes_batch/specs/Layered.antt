-- A batch of settings decided layer by layer, in one array of words: what stands there on the way, what a sweep leaves,
-- and what is decided at the end.
--   Part, OrderPart           the gates at the positions from one to before another can be evaluated
--   GateStored, GateEvaluated, GatesEvaluated   what one gate's evaluation and several leave
--   part, Among               these gates, there or back
--   LanesUnderway, LanesSwept the pairs on the way to the settled values, and after a list of gates was evaluated
--   Still, PartAdvanced, PartDecided   gates that have the values that their evaluation gives
--   Reached, LayersSettled, StraightReached   the layers below a position are settled
--   start_inputs, LanesStarted, ConstantsStarted, InputsPut   the first pairs
--   LanesFresh, LanesFixed, StraightFixed   the settled values from any inputs
--   LanesSettled              the settled values of a batch
--   PlanRoom, Planned, StraightPlanned   a block's words, decoded and in layers, or straight
-- Assumes nothing.
use Rattle.std.specs.Prelude.{◌≡◌, Bool, true, false, cond, not, ◌||◌, List, [], ◌∷◌, ◌++◌, map, ℕ, ◌+◌, ◌-◌, ◌≤◌, ◌<◌, eqb, ltb, length, get_or, replicate}
use Rattle.std.specs.Int.Bits.{bit_or}
use Rattle.prelude.specs.Lists.{tab}
use Rattle.netlist.specs.Limits.{max_inputs, max_gates}
use Rattle.netlist.specs.Values.{Value, undefined}
use Rattle.netlist.specs.Netlist.{Block, gate_count, gate_of}
use Rattle.netlist.specs.Rounds.{evaluated, settled, setting_of}
use Rattle.graph_gates.specs.Places.{first_input, first_gate}
use Rattle.netlist.specs.StoredBlock.{decode, is_malformed}
use Rattle.netlist.specs.Rendering.{is_straight}
use Rattle.graph_gates.specs.Graph.{graph_size, Node, network, Decoded}
use Rattle.graph_scc.specs.Layers.{Layers}
use Rattle.lanes_dual_rail.specs.declared.Pair.{Pair}
use Rattle.lanes_dual_rail.specs.Pairs.{lane, no_lanes, full}
use Rattle.lanes_dual_rail.specs.PairRounds.{AllProper}
use Rattle.lanes_dual_rail.specs.Batches.{lanes_of, input_pair}
use Rattle.lanes_dual_rail.specs.LaneWords.{pair_at, put_pair, inputs_in, gates_in, Filled, gate_pair_in}
use Rattle.lanes_batch.specs.Batch.{Underway, Swept, room, place_of}

-- ---- one gate, and several one after the other

unfoldable pub is_other : Pair → Pair → Bool
is_other p q = not (eqb p.zeros q.zeros) || not (eqb p.ones q.ones)

-- gate j was evaluated and its pair stored
pub record GateStored (graph : List ℕ) (j : ℕ) (w after : List ℕ) : Type 0 where
  pub words_are : after ≡ put_pair w (first_gate + j) (gate_pair_in graph j w)

-- gate j was evaluated and its pair stored, and `changed` tells whether it is another
pub record GateEvaluated (graph : List ℕ) (j : ℕ) (w after : List ℕ) (changed : Bool) : Type 0 where
  pub words_are : after ≡ put_pair w (first_gate + j) (gate_pair_in graph j w)
  pub changed_is : changed ≡ is_other (gate_pair_in graph j w) (pair_at w (first_gate + j))

-- the gates listed were evaluated one after the other, each pair stored at once, and `changed` tells whether any is
-- another
pub data GatesEvaluated (graph w : List ℕ) : List ℕ → List ℕ → Bool → Type 0 where
  no_gate : GatesEvaluated graph w [] w false
  gate_more : {js mid after : List ℕ} {r s : Bool} → GatesEvaluated graph w js mid r → (j : ℕ)
      → GateEvaluated graph j mid after s
      → GatesEvaluated graph w (js ++ (j ∷ [])) after (s || r)

-- every gate at the positions from `from` to before `end` is one of a graph's
pub record Part (graph order : List ℕ) (from end : ℕ) : Type 0 where
  pub ordered : from ≤ end
  pub within : end ≤ max_gates
  pub few : (i : ℕ) → from ≤ i → i < end → get_or order i 0 < max_gates
  pub node : (i : ℕ) → from ≤ i → i < end → Node max_gates graph (get_or order i 0)

-- every gate at these positions is one of the first m
pub record OrderPart (m : ℕ) (order : List ℕ) (from end : ℕ) : Type 0 where
  pub ordered : from ≤ end
  pub within : end ≤ m
  pub inside : (i : ℕ) → from ≤ i → i < end → get_or order i 0 < m

-- the gates at these positions, along or back
unfoldable pub part : Bool → List ℕ → ℕ → ℕ → List ℕ
part back order from end = tab (λ i. get_or order (from + place_of back (end - from) i) 0) (end - from)

-- gate j stands at one of these positions
pub record Among (order : List ℕ) (from end j : ℕ) : Type 0 where
  pub at : ℕ
  pub low : from ≤ at
  pub high : at < end
  pub is : get_or order at 0 ≡ j

-- ---- on the way to the settled values, for the first m gates of a graph and a batch of a block of n inputs

pub record LanesUnderway (m n : ℕ) (graph w : List ℕ) : Type 0 where
  pub filled : Filled (full (lanes_of n)) w
  pub underway : Underway (network m graph) (lanes_of n) (inputs_in w) (gates_in m w)

pub record LanesSwept (m n : ℕ) (graph js w after : List ℕ) (changed : Bool) : Type 0 where
  pub filled : Filled (full (lanes_of n)) after
  pub inputs_kept : inputs_in after ≡ inputs_in w
  pub swept : Swept (network m graph) (lanes_of n) (inputs_in w) js (gates_in m w) (gates_in m after) changed

-- how far the words of the gates are from their greatest
unfoldable pub room_in : ℕ → ℕ → List ℕ → ℕ
room_in m n w = room (lanes_of n) (gates_in m w)

-- the value of gate j at lane s, and what its evaluation there gives
unfoldable pub value_at : ℕ → List ℕ → ℕ → ℕ → Value
value_at m w s j = get_or (map (lane s) (gates_in m w)) j undefined

unfoldable pub evaluated_at : ℕ → List ℕ → List ℕ → ℕ → ℕ → Value
evaluated_at m graph w s j =
    evaluated (map (lane s) (inputs_in w)) (map (lane s) (gates_in m w)) (gate_of (network m graph) j)

-- gate j is still: at every lane in use its evaluation gives the value that it has
abbrev pub Still : ℕ → ℕ → List ℕ → List ℕ → ℕ → Type 0
Still m n graph w j = (s : ℕ) → s < lanes_of n → evaluated_at m graph w s j ≡ value_at m w s j

-- only gates at the positions from `from` to before `end` were evaluated, and where `done` is told, all of them are
-- still
pub record PartAdvanced (m n : ℕ) (graph order : List ℕ) (from end : ℕ) (w after : List ℕ) (done : Bool) : Type 0 where
  pub underway : LanesUnderway m n graph after
  pub inputs_kept : inputs_in after ≡ inputs_in w
  pub kept : (s : ℕ) → s < lanes_of n → (j : ℕ) → (Among order from end j → ⊥) → value_at m after s j ≡ value_at m w s j
  pub still : done ≡ true → (i : ℕ) → from ≤ i → i < end → Still m n graph after (get_or order i 0)

-- every lane in use of gate j is 0 or 1
unfoldable pub is_decided_at : ℕ → List ℕ → ℕ → Bool
is_decided_at used w j = let p = pair_at w (first_gate + j) in eqb (bit_or p.zeros p.ones) used

-- every lane in use of these gates is 0 or 1
pub record PartDecided (used : ℕ) (order : List ℕ) (from end : ℕ) (w : List ℕ) : Type 0 where
  pub each : (i : ℕ) → from ≤ i → i < end
      → let p = pair_at w (first_gate + get_or order i 0) in bit_or p.zeros p.ones ≡ used

-- ---- a batch

-- the pairs of the inputs: undefined past the block's own
unfoldable pub padded : ℕ → (ℕ → Pair) → List Pair
padded n pair = tab (λ i. cond (ltb i n) (pair i) no_lanes) max_inputs

unfoldable pub start_inputs : ℕ → ℕ → List Pair
start_inputs n base = padded n (input_pair n base)

pub record LanesStarted (m n base : ℕ) (w : List ℕ) : Type 0 where
  pub filled : Filled (full (lanes_of n)) w
  pub inputs : inputs_in w ≡ start_inputs n base
  pub gates : gates_in m w ≡ replicate m no_lanes

-- words below `end` are 0
pub record Cleared (end : ℕ) (w after : List ℕ) : Type 0 where
  pub long : length after ≡ length w
  pub none : (k : ℕ) → k < end → get_or after k 0 ≡ 0

-- the constants are there, in use are the lanes of a block of n inputs, and nothing else among the first m gates is
-- defined
pub record ConstantsStarted (m n : ℕ) (w : List ℕ) : Type 0 where
  pub filled : Filled (full (lanes_of n)) w
  pub blank : (p : ℕ) → first_input ≤ p → p < first_gate + m → pair_at w p ≡ no_lanes

-- the pairs of the first k inputs are put
pub record InputsPut (pair : ℕ → Pair) (k : ℕ) (w after : List ℕ) : Type 0 where
  pub long : length after ≡ length w
  pub put : (i : ℕ) → i < k → pair_at after (first_input + i) ≡ pair i
  pub before : (p : ℕ) → p < first_input → pair_at after p ≡ pair_at w p
  pub behind : (p : ℕ) → first_input + k ≤ p → pair_at after p ≡ pair_at w p

-- the gates at the positions below i are still, and no loop goes on there
pub record Reached (m n : ℕ) (graph order ends : List ℕ) (i : ℕ) (w : List ℕ) : Type 0 where
  pub underway : LanesUnderway m n graph w
  pub closed : (k : ℕ) → k < i → get_or ends k 0 ≤ i
  pub still : (k : ℕ) → k < i → Still m n graph w (get_or order k 0)

-- the layers from position i on are settled, up to the one that starts at `next`
pub record LayersSettled (m n : ℕ) (graph order ends : List ℕ) (i : ℕ) (w after : List ℕ) (next : ℕ) : Type 0 where
  pub reached : Reached m n graph order ends next after
  pub inputs_kept : inputs_in after ≡ inputs_in w
  pub more : i < next
  pub within : next ≤ m

-- the gates below j are still, where gates stand as they come, each a layer of its own
pub record StraightReached (m n : ℕ) (graph : List ℕ) (i : ℕ) (w : List ℕ) : Type 0 where
  pub reached : Reached m n graph (tab (λ k. k) m) (tab (λ k. k) m) i w

-- before the first evaluation: the inputs are as they may be, and no gate is defined
pub record LanesFresh (m n : ℕ) (w : List ℕ) : Type 0 where
  pub filled : Filled (full (lanes_of n)) w
  pub inputs_proper : AllProper (lanes_of n) (inputs_in w)
  pub gates : gates_in m w ≡ replicate m no_lanes

-- the inputs are as they were, and at every lane the gates have the settled values of the inputs there
pub record LanesFixed (b : Block) (n : ℕ) (w after : List ℕ) : Type 0 where
  pub filled : Filled (full (lanes_of n)) after
  pub inputs_kept : inputs_in after ≡ inputs_in w
  pub inputs_proper : AllProper (lanes_of n) (inputs_in after)
  pub gates_proper : AllProper (lanes_of n) (gates_in (gate_count b) after)
  pub settled_lanes : (s : ℕ) → s < lanes_of n
      → map (lane s) (gates_in (gate_count b) after) ≡ settled b (map (lane s) (inputs_in after))

-- of any lanes in use that were started, the first i gates of a straight block are still; and after all of them
pub record StraightUnder (m : ℕ) (graph w : List ℕ) (i : ℕ) (after : List ℕ) : Type 0 where
  pub each : (n : ℕ) → LanesFresh m n w → StraightReached m n graph i after × (inputs_in after ≡ inputs_in w)

pub record StraightFixed (m : ℕ) (graph w after : List ℕ) : Type 0 where
  pub each : (n : ℕ) → LanesFresh m n w → LanesFixed (network m graph) n w after

-- the settled values of a block's first m gates, of n inputs, in the batch at `base`
pub record LanesSettled (b : Block) (n base : ℕ) (w : List ℕ) : Type 0 where
  pub filled : Filled (full (lanes_of n)) w
  pub inputs : inputs_in w ≡ start_inputs n base
  pub inputs_proper : AllProper (lanes_of n) (inputs_in w)
  pub gates_proper : AllProper (lanes_of n) (gates_in (gate_count b) w)
  pub settled_lanes : (s : ℕ) → s < lanes_of n
      → map (lane s) (gates_in (gate_count b) w) ≡ settled b (setting_of n (base + s))

-- ---- a block's words

-- arrays for a plan
pub record PlanRoom (graph order ends : List ℕ) : Type 0 where
  pub graph_room : length graph ≡ graph_size
  pub order_room : length order ≡ max_gates
  pub end_room : length ends ≡ max_gates

-- the graph of whole words, and its gates in layers
pub record Planned (ws graph order ends : List ℕ) : Type 0 where
  pub whole : is_malformed ws ≡ false
  pub decoded : Decoded (decode ws) (get_or ws 1 0) graph
  pub layers : Layers (get_or ws 1 0) graph order ends

-- the graph of whole words of a straight block
pub record StraightPlanned (ws graph : List ℕ) : Type 0 where
  pub whole : is_malformed ws ≡ false
  pub decoded : Decoded (decode ws) (get_or ws 1 0) graph
  pub straight : is_straight (decode ws) ≡ true
