-- A small netlist with its loop taken out, computed from the definitions. Assumes nothing.
--
--     in a, b, c    p = and a q    n = not c    q = or n p    r = xor q b    out y r    out z q
--
-- p and q are a loop that reads a and n, and q is seen outside. They wait for each other where a is 1 and n is 0, so
-- the never line (a 1, n 0) goes with them; everywhere else q is `or n a`.
use Rattle.std.specs.Prelude.{◌≡◌, refl, List, [], ◌∷◌, ℕ}
use Rattle.prelude.specs.Lists.{ascii}
use Rattle.netlist.specs.Netlist.{Operand, input, gate, Gate, Block}
use Rattle.netlist.specs.Groups.{gate_operand, read_by, reads, has, grown, grown_times, reach, reaches, same_group, group_of}
use Rattle.netlist.specs.Gather.{number_at, place_in, renumbered}
use Rattle.theory_replacement.specs.Placing.{nodes, rewired, in_place}
use Rattle.theory_replacement.specs.Group.{same_net, is_outside_net, first_ones, operands_of, boundary, is_shown}
use Rattle.theory_replacement.specs.Group.{is_read_outside, ports, cut_of, net_place, own_operand}
use Rattle.theory_replacement.specs.Group.{own_block}
use Rattle.theory_replacement.specs.Replaced.{outside, new_number, behind_outside, new_nets, new_operand, stand_in}
use Rattle.theory_replacement.specs.Replaced.{replaced}

abbrev gate_with : ℕ → List Operand → Gate
gate_with kind operands = record { kind = kind; operands = operands }

-- gates 0 to 3 are p, n, q, r
abbrev pub netlist : Block
netlist =
    record {
      inputs = ascii "a" ∷ ascii "b" ∷ ascii "c" ∷ [];
      nevers = [];
      gates =
          gate_with 1 (input 0 ∷ gate 2 ∷ []) ∷ gate_with 0 (input 2 ∷ []) ∷ gate_with 2 (gate 1 ∷ gate 0 ∷ [])
          ∷ gate_with 5 (gate 2 ∷ input 1 ∷ []) ∷ [];
      outputs = record { port = ascii "y"; node = gate 3 } ∷ record { port = ascii "z"; node = gate 2 } ∷ [];
    }

-- the loop by itself: inputs a and n, gates p and q, and q shown
abbrev pub loop : Block
loop =
    record {
      inputs = ascii "a" ∷ ascii "n" ∷ [];
      nevers = record { fixed = 3; ones = 1 } ∷ [];
      gates = gate_with 1 (input 0 ∷ gate 1 ∷ []) ∷ gate_with 2 (input 1 ∷ gate 0 ∷ []) ∷ [];
      outputs = record { port = ascii "q"; node = gate 1 } ∷ [];
    }

-- what takes its place: q = or n a
abbrev pub straight : Block
straight =
    record {
      inputs = ascii "a" ∷ ascii "n" ∷ [];
      nevers = [];
      gates = gate_with 2 (input 1 ∷ input 0 ∷ []) ∷ [];
      outputs = record { port = ascii "q"; node = gate 0 } ∷ [];
    }

-- gates 0 to 2 are now n, r, and the new q
abbrev pub loop_taken_out : Block
loop_taken_out =
    record {
      inputs = ascii "a" ∷ ascii "b" ∷ ascii "c" ∷ [];
      nevers = [];
      gates = gate_with 0 (input 2 ∷ []) ∷ gate_with 5 (gate 2 ∷ input 1 ∷ []) ∷ gate_with 2 (gate 0 ∷ input 0 ∷ []) ∷ [];
      outputs = record { port = ascii "y"; node = gate 1 } ∷ record { port = ascii "z"; node = gate 2 } ∷ [];
    }

pub its-group : group_of netlist 0 ≡ 0 ∷ 2 ∷ []
unfolding gate_operand read_by reads has grown grown_times reach reaches same_group group_of
its-group = refl

pub its-block : own_block netlist (0 ∷ 2 ∷ []) (ascii "a" ∷ ascii "n" ∷ []) (ascii "q" ∷ [])
    (record { fixed = 3; ones = 1 } ∷ []) ≡ loop
unfolding gate_operand read_by reads same_net is_outside_net first_ones operands_of boundary is_shown is_read_outside ports
    net_place own_operand rewired
    number_at place_in own_block
its-block = refl

pub its-replacement : replaced netlist (cut_of netlist (0 ∷ 2 ∷ [])) straight ≡ loop_taken_out
unfolding gate_operand read_by reads same_net is_outside_net first_ones operands_of boundary is_shown is_read_outside ports cut_of
    nodes rewired in_place
    number_at place_in renumbered outside new_number behind_outside new_nets new_operand stand_in replaced
its-replacement = refl
