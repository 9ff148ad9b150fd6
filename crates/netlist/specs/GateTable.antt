-- SPECIFICATION 3.2, "The table of all gates": an entry for each kind and each four codes of operands, and what it must
-- hold. Every entry is said by the three-valued rule of Kinds.antt. Assumes nothing.
use Rattle.std.specs.Prelude.{ℕ, ◌+◌, ◌*◌, ◌/◌, ◌%◌, Bool, false, cond, not, ◌&&◌, List, [], ◌∷◌, map, length, get_or, eqb}
use Rattle.prelude.specs.Lists.{any, keep, tab}
use Rattle.netlist.specs.Values.{Value, code, value_of}
use Rattle.netlist.specs.Kinds.{arity_fits, gate_value}

-- the code of an operand that is absent, and of an entry that no gate has; the others are the codes of values
abbrev pub absent : ℕ
absent = 3

-- ---- where an entry stands

-- the index of kind k with the operands' codes a, b, c, d
unfoldable pub table_index : ℕ → ℕ → ℕ → ℕ → ℕ → ℕ
table_index k a b c d = 256 * k + a + 4 * b + 16 * c + 64 * d

-- the kind and the four codes of an index
unfoldable pub kind_at : ℕ → ℕ
kind_at i = i / 256

unfoldable pub codes_at : ℕ → List ℕ
codes_at i = i % 4 ∷ i / 4 % 4 ∷ i / 16 % 4 ∷ i / 64 % 4 ∷ []

-- entries of the table: 256 for each of the kinds 0 to 6
abbrev pub table_size : ℕ
table_size = 1792

-- ---- what it holds

unfoldable pub is_present : ℕ → Bool
is_present c = not (eqb c absent)

-- an absent operand stands before a present one
unfoldable pub has_gap : List ℕ → Bool
has_gap [] = false
has_gap (c ∷ cs) = cond (is_present c) (has_gap cs) (any is_present cs)

unfoldable pub present_values : List ℕ → List Value
present_values cs = map value_of (keep is_present cs)

-- the value of a gate of kind k with these operands, where it can have them
unfoldable pub entry_of : ℕ → List ℕ → ℕ
entry_of k cs =
    cond (not (has_gap cs) && arity_fits k (length (present_values cs))) (code (gate_value k (present_values cs))) absent

unfoldable pub table_entry : ℕ → ℕ
table_entry i = entry_of (kind_at i) (codes_at i)

unfoldable pub gate_table : List ℕ
gate_table = tab table_entry table_size

-- ---- a gate's entry

-- the code of operand p of a gate whose operands have the values vs
unfoldable pub operand_code : List Value → ℕ → ℕ
operand_code vs p = get_or (map code vs) p absent

unfoldable pub gate_index : ℕ → List Value → ℕ
gate_index k vs = table_index k (operand_code vs 0) (operand_code vs 1) (operand_code vs 2) (operand_code vs 3)
