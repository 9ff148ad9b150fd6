-- SPECIFICATION 7.17, 7.18: gates numbered afresh, so that those of a group lie side by side, and the way back.
use Rattle.std.specs.Prelude.{ℕ, Bool, not, ◌&&◌, ◌||◌, List, map, length, get_or, eqb, ltb}
use Rattle.prelude.specs.Lists.{all, tab, joined, up_to, member, least}
use Rattle.netlist.specs.declared.Refusal.TheVariants.{MalformedBlock, NoRoom, NotAPermutation}
use Rattle.netlist.specs.Netlist.{Operand, input, gate, constant, Gate, Output, Block, gate_count, gate_of}
use Rattle.netlist.specs.StoredBlock.{encode, decode, is_malformed}
use Rattle.netlist.specs.Groups.{groups}
use Rattle.netlist.specs.Answers.{Outcome, done, refuse_if, in_room}
use Rattle.netlist.specs.Operations.{counted}

-- ---- gates in another order

-- a gate's new number in place of its old one
unfoldable pub renumbered : (ℕ → ℕ) → Operand → Operand
renumbered number (input i) = input i
renumbered number (gate j) = gate (number j)
renumbered number (constant c) = constant c

unfoldable pub renumbered_gate : (ℕ → ℕ) → Gate → Gate
renumbered_gate number g = record { kind = g.kind; operands = map (renumbered number) g.operands }

unfoldable pub renumbered_output : (ℕ → ℕ) → Output → Output
renumbered_output number o = record { port = o.port; node = renumbered number o.node }

-- the gates of b in this order, where `number` says which number each then has
unfoldable pub arranged : List ℕ → (ℕ → ℕ) → Block → Block
arranged order number b =
    record {
      inputs = b.inputs;
      nevers = b.nevers;
      gates = map (λ j. renumbered_gate number (gate_of b j)) order;
      outputs = map (renumbered_output number) b.outputs;
    }

-- the number at place t of a list, and the place at which number j stands in it
unfoldable pub number_at : List ℕ → ℕ → ℕ
number_at order t = get_or order t 0

unfoldable pub place_in : List ℕ → ℕ → ℕ
place_in order j = least (λ t. eqb (number_at order t) j) (length order)

-- ---- 7.17 Gather (6, 11): the block with its gates by group, and the list of their old numbers in the new order;
-- count: the block's words

-- the gates' old numbers in their new order: group after group, ascending inside a group
unfoldable pub gathered_order : Block → List ℕ
gathered_order b = joined (groups b)

-- the gathered block: new gate t is old gate number t of that order
unfoldable pub gathered : Block → Block
gathered b = arranged (gathered_order b) (place_in (gathered_order b)) b

-- refusal 11 of Gather: the slice for the block, or the one for the list, is too small
unfoldable pub lacks_room : Block → ℕ → ℕ → Bool
lacks_room b room list_room = ltb room (length (encode (gathered b))) || ltb list_room (length (gathered_order b))

-- Gather's answer, with what one of its two slices gets, as chosen by a function of the block
unfoldable pub gather_with : List ℕ → ℕ → ℕ → (Block → List ℕ) → Outcome
gather_with ws room list_room result =
    refuse_if (is_malformed ws) MalformedBlock
    (refuse_if (lacks_room (decode ws) room list_room) NoRoom
    (done (result (decode ws)) (length (encode (gathered (decode ws)))) 0))

unfoldable pub gathered_words : Block → List ℕ
gathered_words b = encode (gathered b)

unfoldable pub gather : List ℕ → ℕ → ℕ → Outcome
gather ws room list_room = gather_with ws room list_room gathered_words

unfoldable pub gather_list : List ℕ → ℕ → ℕ → Outcome
gather_list ws room list_room = gather_with ws room list_room gathered_order

-- ---- 7.18 Scatter (6, 13, 11): from a block and a list of old numbers, the block with its gates back in their old
-- order; count: words

-- a list is a permutation: as many numbers as there are gates, and every gate's number among them, so each once
unfoldable pub is_permutation : ℕ → List ℕ → Bool
is_permutation m order = eqb (length order) m && all (λ j. member j order) (up_to m)

-- the inverse of a permutation: where each number stands in it
unfoldable pub inverse : List ℕ → List ℕ
inverse order = tab (place_in order) (length order)

-- the scattered block: gate t gets number t of the list
unfoldable pub scattered : List ℕ → Block → Block
scattered order b = arranged (inverse order) (number_at order) b

unfoldable pub scatter : List ℕ → List ℕ → ℕ → Outcome
scatter ws order room =
    in_room room
    (refuse_if (is_malformed ws) MalformedBlock
    (refuse_if (not (is_permutation (gate_count (decode ws)) order)) NotAPermutation
    (counted (encode (scattered order (decode ws))))))
