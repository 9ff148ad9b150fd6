-- Places: one number for everything that a gate can read, the same in every block. Place 0 is constant 0, place 1
-- constant 1; then come as many places as a block may have inputs, and then the gates. Cited by every crate that works
-- on a graph. Assumes nothing.
--   operand_at, place_of    what stands at a place, and the place of an operand
--   is_gate_place           a gate stands there
use Rattle.std.specs.Prelude.{ℕ, ◌+◌, ◌-◌, Bool, true, false, cond, eqb, leb, ltb}
use Rattle.netlist.specs.Limits.{max_inputs, max_gates}
use Rattle.netlist.specs.Netlist.{Operand, input, gate, constant}

abbrev pub first_input : ℕ
first_input = 2

abbrev pub first_gate : ℕ
first_gate = first_input + max_inputs

abbrev pub place_count : ℕ
place_count = first_gate + max_gates

unfoldable pub operand_at : ℕ → Operand
operand_at p =
    cond (eqb p 0) (constant false)
    (cond (eqb p 1) (constant true)
    (cond (ltb p first_gate) (input (p - first_input)) (gate (p - first_gate))))

unfoldable pub place_of : Operand → ℕ
place_of (input i) = first_input + i
place_of (gate j) = first_gate + j
place_of (constant false) = 0
place_of (constant true) = 1

unfoldable pub is_gate_place : ℕ → Bool
is_gate_place p = leb first_gate p
