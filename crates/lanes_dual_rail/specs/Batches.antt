-- The settings of a batch, from number `base` on, and the pair of each input under them. Assumes nothing.
use Rattle.std.specs.Prelude.{ℕ, ◌^◌, min, cond, List, [], ◌∷◌, eqb, ltb, get_or}
use Rattle.std.specs.Int.Bits.{bit_and, bit_xor}
use Rattle.prelude.specs.Lists.{tab}
use Rattle.netlist.specs.Assignments.{bit}
use Rattle.lanes_dual_rail.specs.declared.Pair.{Pair}
use Rattle.lanes_dual_rail.specs.Pairs.{full}

-- how many settings a batch of a block of n inputs has: 64, or all of them
unfoldable pub lanes_of : ℕ → ℕ
lanes_of n = 2 ^ min n 6

-- bit s of number i is bit i of s
unfoldable pub patterns : List ℕ
patterns =
    0xAAAAAAAAAAAAAAAA ∷ 0xCCCCCCCCCCCCCCCC ∷ 0xF0F0F0F0F0F0F0F0 ∷ 0xFF00FF00FF00FF00
    ∷ 0xFFFF0000FFFF0000 ∷ 0xFFFFFFFF00000000 ∷ []

-- the settings of the batch at `base` under which input i is 1
unfoldable pub pattern : ℕ → ℕ → ℕ
pattern base i = cond (ltb i 6) (get_or patterns i 0) (cond (eqb (bit base i) 1) (full 64) 0)

unfoldable pub input_pair : ℕ → ℕ → ℕ → Pair
input_pair n base i =
    let ones = bit_and (pattern base i) (full (lanes_of n)) in
    record { zeros = bit_xor (full (lanes_of n)) ones; ones = ones }

unfoldable pub input_pairs : ℕ → ℕ → List Pair
input_pairs n base = tab (input_pair n base) n
