-- A group of gates of a netlist, cut out: the nets that it reads from outside, the gates of it that are seen outside,
-- and the block that it is by itself. The definitions are for any list of gates. Assumes nothing.
--   boundary   the inputs and outside gates that its gates read, each once, in the order in which they are first read
--   ports      its gates that an outside gate reads or an output shows, in the group's order
--   own_block   the group by itself: its boundary as inputs, its gates numbered from 0 in the group's order, its ports
--              as outputs
use Rattle.std.specs.Prelude.{ℕ, ◌≡◌, Bool, true, false, cond, not, ◌&&◌, ◌||◌, List, [], ◌∷◌, map, length, get_or, eqb}
use Rattle.prelude.specs.Lists.{any, keep, tab, joined, up_to, member, least}
use Rattle.netlist.specs.Assignments.{Assignment}
use Rattle.netlist.specs.Netlist.{Name, Operand, input, gate, constant, Output, Block, gate_count, gate_of}
use Rattle.netlist.specs.Groups.{gate_operand, reads}
use Rattle.netlist.specs.Gather.{number_at, place_in}
use Rattle.theory_replacement.specs.Placing.{Cut, rewired}

-- ---- its boundary

-- two operands are one net: one input, or one gate; constants are no nets
unfoldable pub same_net : Operand → Operand → Bool
same_net (input i) (input k) = eqb i k
same_net (input i) (gate k) = false
same_net (input i) (constant c) = false
same_net (gate j) (input k) = false
same_net (gate j) (gate k) = eqb j k
same_net (gate j) (constant c) = false
same_net (constant b) o = false

-- inputs, and gates outside the group
unfoldable pub is_outside_net : List ℕ → Operand → Bool
is_outside_net group (input i) = true
is_outside_net group (gate k) = not (member k group)
is_outside_net group (constant c) = false

-- each net once, where it first stands
unfoldable pub first_ones : List Operand → List Operand
first_ones [] = []
first_ones (o ∷ os) = o ∷ keep (λ p. not (same_net o p)) (first_ones os)

-- no net stands twice, which holds of every boundary (`boundary-once` in proofs/Own.antt)
abbrev pub NoNetTwice : List Operand → Type 0
NoNetTwice [] = Unit
NoNetTwice (o ∷ os) = (any (same_net o) os ≡ false) × NoNetTwice os

-- all operands of the group's gates, one gate after the other
unfoldable pub operands_of : Block → List ℕ → List Operand
operands_of b group = joined (map (λ j. (gate_of b j).operands) group)

unfoldable pub boundary : Block → List ℕ → List Operand
boundary b group = first_ones (keep (is_outside_net group) (operands_of b group))

-- ---- its ports

-- an output shows gate j
unfoldable pub is_shown : Block → ℕ → Bool
is_shown b j = any (λ (o : Output). member j (gate_operand o.node)) b.outputs

-- a gate outside the group reads gate j
unfoldable pub is_read_outside : Block → List ℕ → ℕ → Bool
is_read_outside b group j = any (λ i. not (member i group) && reads b i j) (up_to (gate_count b))

unfoldable pub ports : Block → List ℕ → List ℕ
ports b group = keep (λ j. is_read_outside b group j || is_shown b j) group

unfoldable pub cut_of : Block → List ℕ → Cut
cut_of b group = record { gates = group; nets = boundary b group; ports = ports b group }

-- ---- the group by itself

-- where a net stands in the boundary
unfoldable pub net_place : List Operand → Operand → ℕ
net_place nets o = least (λ i. same_net o (get_or nets i (constant false))) (length nets)

-- a net of the boundary becomes an input and a gate of the group keeps its place as its number; constants stay
unfoldable pub own_operand : List ℕ → List Operand → Operand → Operand
own_operand group nets (input i) = input (net_place nets (input i))
own_operand group nets (gate k) = cond (member k group) (gate (place_in group k)) (input (net_place nets (gate k)))
own_operand group nets (constant c) = constant c

-- Names for its inputs and outputs, and never lines about its inputs, are whatever one gives it.
unfoldable pub own_block : Block → List ℕ → List Name → List Name → List Assignment → Block
own_block b group input_names port_names nevers =
    record {
      inputs = tab (λ i. get_or input_names i []) (length (boundary b group));
      nevers = nevers;
      gates = map (λ j. rewired (own_operand group (boundary b group)) (gate_of b j)) group;
      outputs =
          tab (λ p. record { port = get_or port_names p []; node = gate (place_in group (number_at (ports b group) p)) })
          (length (ports b group));
    }
