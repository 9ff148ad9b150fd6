-- A netlist with a group of its gates replaced by another block, for instance by straight gates. Inputs, never lines
-- and output ports stay as they are. Gates are numbered afresh: first the gates outside the group, in their old order,
-- and then the gates of the new block, in its order. Where an outside gate or an output named a gate of the group, it
-- now names what the new block shows at that gate's port; the new block's input i is net number i of the boundary.
-- Assumes nothing.
use Rattle.std.specs.Prelude.{ℕ, ◌+◌, false, cond, not, List, map, ◌++◌, length, get_or}
use Rattle.prelude.specs.Lists.{keep, up_to, member}
use Rattle.netlist.specs.Netlist.{Operand, input, gate, constant, Output, Block, gate_count, gate_of}
use Rattle.netlist.specs.Gather.{place_in, renumbered}
use Rattle.theory_replacement.specs.Placing.{Cut, nodes, rewired, in_place}

-- the gates outside the group, ascending
unfoldable pub outside : Block → Cut → List ℕ
outside b cut = keep (λ j. not (member j cut.gates)) (up_to (gate_count b))

-- the new number of gate j outside the group
unfoldable pub new_number : Block → Cut → ℕ → ℕ
new_number b cut j = place_in (outside b cut) j

-- the new number of gate t of the new block
unfoldable pub behind_outside : Block → Cut → ℕ → ℕ
behind_outside b cut t = length (outside b cut) + t

-- the nets of the boundary by their new numbers
unfoldable pub new_nets : Block → Cut → List Operand
new_nets b cut = map (renumbered (new_number b cut)) cut.nets

-- an operand of the new block
unfoldable pub new_operand : Block → Cut → Operand → Operand
new_operand b cut o = in_place (new_nets b cut) (behind_outside b cut) o

-- what stands for an operand of an outside gate, or for an output's node
unfoldable pub stand_in : Block → Cut → Block → Operand → Operand
stand_in b cut new (input i) = input i
stand_in b cut new (constant c) = constant c
stand_in b cut new (gate j) =
    cond (member j cut.gates) (new_operand b cut (get_or (nodes new) (place_in cut.ports j) (constant false)))
    (gate (new_number b cut j))

unfoldable pub replaced : Block → Cut → Block → Block
replaced b cut new =
    record {
      inputs = b.inputs;
      nevers = b.nevers;
      gates =
          map (λ j. rewired (stand_in b cut new) (gate_of b j)) (outside b cut)
          ++ map (rewired (new_operand b cut)) new.gates;
      outputs = map (λ (o : Output). record { port = o.port; node = stand_in b cut new o.node }) b.outputs;
    }
