-- The rules of a block's names as the loops of src/ step through them: names for the tests under each "all" of the
-- rules in crates/theory_encoding.
use Rattle.std.specs.Prelude.{ℕ, ◌+◌, ◌*◌, Bool, not, ◌&&◌, List, drop, eqb}
use Rattle.prelude.specs.Lists.{all, up_to}
use Rattle.theory_encoding.specs.Rules.{name_rule, same_name}

-- from byte i on only zeros
abbrev pub zeros_from : List ℕ → ℕ → Bool
zeros_from bytes i = all (eqb 0) (drop i bytes)

-- names i and j differ, of names that stand `size` words apart from `at` on
abbrev pub other_name : List ℕ → ℕ → ℕ → ℕ → ℕ → Bool
other_name ws at size j i = not (same_name ws (at + size * i) (at + size * j))

abbrev pub others_before : List ℕ → ℕ → ℕ → ℕ → Bool
others_before ws at size j = all (other_name ws at size j) (up_to j)

abbrev pub new_name : List ℕ → ℕ → ℕ → ℕ → Bool
new_name ws at size j = name_rule ws (at + size * j) && others_before ws at size j
