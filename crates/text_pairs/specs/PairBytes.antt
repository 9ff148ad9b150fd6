-- Pairs of a text in form, read from its bytes alone: where the name of each stands, and its value. On the print of
-- legal pairs these are the pairs' own (proofs/). Assumes nothing.
use Rattle.std.specs.Prelude.{ℕ, zero, suc, ◌+◌, cond, List, length, get_or, drop, eqb, ltb}
use Rattle.prelude.specs.Lists.{tab}
use Rattle.netlist.specs.Limits.{max_name}
use Rattle.text_names.specs.Packed.{name_front, name_from, packed_at}
use Rattle.text_names.specs.Search.{index_of}

-- the place of the name of pair i: the first name stands behind " (", and between two stand a space, a value and ") ("
unfoldable pub pair_place : List ℕ → ℕ → ℕ → ℕ
pair_place text at zero = at + 2
pair_place text at (suc i) = pair_place text at i + length (name_from text (pair_place text at i)) + 5

-- the code of the value behind the name at the front of a text, and behind the name at a place
unfoldable pub code_front : List ℕ → ℕ
code_front s = cond (eqb (get_or s (length (name_front max_name s) + 1) 0) 49) 1 0

unfoldable pub code_at : List ℕ → ℕ → ℕ
code_at text at = code_front (drop at text)

-- the code that a table of names and values gives a name: 2, undefined, where it is not there
unfoldable pub given_code : List ℕ → List ℕ → ℕ → ℕ → ℕ
given_code names values count name =
    cond (ltb (index_of names count name) count) (get_or values (index_of names count name) 0) 2

-- the code that the pairs give input j of a table of inputs
unfoldable pub input_code : List ℕ → List ℕ → ℕ → List ℕ → ℕ → ℕ
input_code names values count inputs j = given_code names values count (get_or inputs j 0)

-- ---- pair i by its bytes alone, of the pairs whose first space is at a place

-- the name of pair i as a number, and the code of its value
unfoldable pub pair_number : List ℕ → ℕ → ℕ → ℕ
pair_number s at i = packed_at s (pair_place s at i)

unfoldable pub pair_code : List ℕ → ℕ → ℕ → ℕ
pair_code s at i = code_at s (pair_place s at i)

-- the codes of the values of so many pairs
unfoldable pub pair_codes : List ℕ → ℕ → ℕ → List ℕ
pair_codes s at count = tab (pair_code s at) count
