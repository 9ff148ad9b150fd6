-- Which kind's word stands at the front of a text, by its bytes alone, and how long a kind's word is. Assumes nothing.
use Rattle.std.specs.Prelude.{ℕ, cond, List, length, get_or, eqb}
use Rattle.netlist.specs.Kinds.{keyword}

-- `xor` or `xnor`, by the byte behind `x`
unfoldable pub kind_behind_x : ℕ → ℕ
kind_behind_x c = cond (eqb c 111) 5 6

-- the kind whose word stands here: `and`, `or`, `xor` and `xnor`, `nand`, `not`, `nor`
unfoldable pub kind_here : List ℕ → ℕ
kind_here s =
    cond (eqb (get_or s 0 0) 97) 1
    (cond (eqb (get_or s 0 0) 111) 2
    (cond (eqb (get_or s 0 0) 120) (kind_behind_x (get_or s 1 0))
    (cond (eqb (get_or s 1 0) 97) 3
    (cond (eqb (get_or s 2 0) 116) 0 4))))

-- the bytes of a kind's word
unfoldable pub word_length : ℕ → ℕ
word_length k = length (keyword k)
