-- SPECIFICATION 1.2: which names are legal: one to eight letters, digits and `_`, no digit in front; an input's name
-- and a port begin with a letter.
use Rattle.std.specs.Prelude.{ℕ, Bool, ◌&&◌, ◌||◌, length, get_or, eqb, leb}
use Rattle.prelude.specs.Lists.{all}
use Rattle.netlist.specs.Limits.{max_name}
use Rattle.netlist.specs.Netlist.{Name}

unfoldable pub is_letter : ℕ → Bool
is_letter c = leb 97 c && leb c 122

unfoldable pub is_digit : ℕ → Bool
is_digit c = leb 48 c && leb c 57

unfoldable pub is_underscore : ℕ → Bool
is_underscore c = eqb c 95

unfoldable pub is_name_byte : ℕ → Bool
is_name_byte c = is_letter c || is_digit c || is_underscore c

unfoldable pub is_name_start : ℕ → Bool
is_name_start c = is_letter c || is_underscore c

-- a name whose first byte passes the test `start`
unfoldable pub is_legal_name : (ℕ → Bool) → Name → Bool
is_legal_name start s = leb 1 (length s) && leb (length s) max_name && start (get_or s 0 0) && all is_name_byte s

-- the name of an input, and a port
unfoldable pub is_plain_name : Name → Bool
is_plain_name = is_legal_name is_letter

-- the name of a gate, and any name that is used
unfoldable pub is_node_name : Name → Bool
is_node_name = is_legal_name is_name_start
