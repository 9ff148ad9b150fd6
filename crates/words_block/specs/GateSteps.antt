-- The rules of a block's gates as the loops of src/ step through them: names for the tests under each "all" of the
-- rules in crates/theory_encoding.
use Rattle.std.specs.Prelude.{ℕ, ◌+◌, ◌*◌, Bool, cond, List, get_or, eqb, ltb}
use Rattle.prelude.specs.Lists.{all, up_to}
use Rattle.netlist.specs.StoredBlock.{gate_size}
use Rattle.theory_encoding.specs.Rules.{operand_rule, gate_rule}

-- the rule of operand word i of the gate at `at`
abbrev pub slot_rule : List ℕ → ℕ → ℕ → ℕ → ℕ → Bool
slot_rule ws nodes at count i =
    cond (ltb i count) (operand_rule nodes (get_or ws (at + 1 + i) 0)) (eqb (get_or ws (at + 1 + i) 0) 0)

-- the rule of gate j, of those from `at` on
abbrev pub gate_rule_at : List ℕ → ℕ → ℕ → ℕ → Bool
gate_rule_at ws nodes at j = gate_rule ws nodes (at + gate_size * j)

abbrev pub gates_rule : List ℕ → ℕ → ℕ → ℕ → Bool
gates_rule ws nodes at m = all (gate_rule_at ws nodes at) (up_to m)

-- the rule of gate j when its nodes are the inputs and the gates below it, so that it closes no loop
abbrev pub lower_rule_at : List ℕ → ℕ → ℕ → ℕ → Bool
lower_rule_at ws n at j = gate_rule_at ws (n + j) at j

abbrev pub lower_rule : List ℕ → ℕ → ℕ → ℕ → Bool
lower_rule ws n at m = all (lower_rule_at ws n at) (up_to m)
