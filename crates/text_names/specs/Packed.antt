-- Names of at most 8 bytes as numbers: the first byte lowest.
use Rattle.std.specs.Prelude.{ℕ, zero, suc, ◌+◌, ◌*◌, cond, List, [], ◌∷◌, get_or, drop}
use Rattle.netlist.specs.Limits.{max_name}
use Rattle.netlist.specs.Names.{is_name_byte}

abbrev pub packed : List ℕ → ℕ
packed [] = 0
packed (x ∷ xs) = x + 256 * packed xs

-- the name bytes at the front of a list, at most so many
unfoldable pub name_front : ℕ → List ℕ → List ℕ
name_front zero xs = []
name_front (suc most) [] = []
name_front (suc most) (x ∷ xs) = cond (is_name_byte x) (x ∷ name_front most xs) []

-- the name that stands at a place of a text, and that name as a number
unfoldable pub name_from : List ℕ → ℕ → List ℕ
name_from text at = name_front max_name (drop at text)

unfoldable pub packed_at : List ℕ → ℕ → ℕ
packed_at text at = packed (name_from text at)

-- the number of the name at place i of these places
unfoldable pub packed_through : List ℕ → List ℕ → ℕ → ℕ
packed_through text places i = packed_at text (get_or places i 0)
