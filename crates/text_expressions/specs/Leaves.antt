-- What an operand at the front of a text stands for, by its bytes alone: a name, looked up in a table of names, or a
-- constant. On the print of a tree it is the tree's own. Assumes nothing.
use Rattle.std.specs.Prelude.{ℕ, ◌-◌, cond, List, length, get_or, eqb, ltb, Option, None, Some}
use Rattle.std.specs.Option.{option_or}
use Rattle.text_names.specs.Packed.{packed, name_front}
use Rattle.text_names.specs.Search.{index_of}
use Rattle.text_expressions.specs.declared.leaves.Leaf.{Leaf}

-- the bytes of the name at the front
unfoldable pub name_length : List ℕ → ℕ
name_length s = length (name_front 8 s)

-- where the name at the front stands in the table, or the table's length
unfoldable pub index_here : List ℕ → List ℕ → ℕ
index_here s names = index_of names (length names) (packed (name_front 8 s))

-- what a name at the front stands for: its node's word, or 65534 and this place where the table does not have it and no
-- place was found before
unfoldable pub name_here : List ℕ → List ℕ → List ℕ → Option ℕ → Leaf
name_here s names words unknown =
    let i = index_here s names in
    record {
      left = length s - name_length s;
      word = cond (ltb i (length names)) (get_or words i 0) 65534;
      unknown = option_or unknown (cond (ltb i (length names)) None (Some (length s)));
    }

unfoldable pub constant_here : List ℕ → ℕ → Option ℕ → Leaf
constant_here s word unknown = record { left = length s - 1; word = word; unknown = unknown }

-- what an operand at the front stands for that is no expression: a name, `0` or `1`
unfoldable pub leaf_here : List ℕ → List ℕ → List ℕ → Option ℕ → Leaf
leaf_here s names words unknown =
    cond (eqb (get_or s 0 0) 48) (constant_here s 65534 unknown)
    (cond (eqb (get_or s 0 0) 49) (constant_here s 65535 unknown) (name_here s names words unknown))
