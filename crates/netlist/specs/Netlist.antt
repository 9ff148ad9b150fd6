-- A netlist as a record: what the text (SPECIFICATION 1) and the stored block (2) both stand for, and what the meaning
-- is defined on.
use Rattle.std.specs.Prelude.{ℕ, Bool, List, [], length, get_or}
use Rattle.netlist.specs.Assignments.{Assignment}

-- a name's bytes
abbrev pub Name : Type 0
Name = List ℕ

-- what a gate reads or an output shows: input i, gate j, or a constant
pub data Operand : Type 0 where
  input : ℕ → Operand
  gate : ℕ → Operand
  constant : Bool → Operand

pub record Gate : Type 0 where
  pub kind : ℕ
  pub operands : List Operand

pub record Output : Type 0 where
  pub port : Name
  pub node : Operand

-- A block. Its never lines are assignments of its inputs: the settings that agree with one of them never come
-- (don't-cares).
pub record Block : Type 0 where
  pub inputs : List Name
  pub nevers : List Assignment
  pub gates : List Gate
  pub outputs : List Output

-- the number of inputs (n), of gates (m), of outputs (k) and of never lines
abbrev pub input_count : Block → ℕ
input_count b = length b.inputs

abbrev pub gate_count : Block → ℕ
gate_count b = length b.gates

abbrev pub output_count : Block → ℕ
output_count b = length b.outputs

abbrev pub never_count : Block → ℕ
never_count b = length b.nevers

-- gate j; past the end a gate that reads nothing
abbrev pub gate_of : Block → ℕ → Gate
gate_of b j = get_or b.gates j (record { kind = 0; operands = [] })
