-- A pair of words holds a value for each setting of a batch, a lane to a setting. Cited by this crate's contracts and
-- by `lanes_batch`.
--   lane, marked_lanes       the value at a lane
--   Proper             no bit in both words, and none at a lane that is not in use
--   full               the word with a bit at each lane in use
--   no_lanes, always    undefined at every lane; a constant at every lane in use
--   difference_of      the lanes at which two pairs have another value
--   combined, swapped, pair_of   a kind's pair from its operands' pairs
-- Assumes nothing.
use Rattle.std.specs.Prelude.{ℕ, ◌+◌, ◌-◌, ◌^◌, ◌≤◌, ◌<◌, Bool, true, false, cond, ◌||◌, List, [], ◌∷◌, eqb}
use Rattle.std.specs.Int.Bits.{bit_and, bit_or, bit_xor}
use Rattle.netlist.specs.Values.{Value, undefined, val}
use Rattle.netlist.specs.Assignments.{bit}
use Rattle.lanes_dual_rail.specs.declared.Pair.{Pair}

-- the value that the two bits of a lane mark
unfoldable pub marked_lanes : ℕ → ℕ → Value
marked_lanes z o = cond (eqb z 1) (val false) (cond (eqb o 1) (val true) undefined)

unfoldable pub lane : ℕ → Pair → Value
lane s p = marked_lanes (bit p.zeros s) (bit p.ones s)

-- of a batch of so many lanes: no bit in both words, and both are 0 from the last lane in use on
pub record Proper (lanes : ℕ) (p : Pair) : Type 0 where
  pub apart : (s : ℕ) → bit p.zeros s + bit p.ones s ≤ 1
  pub zeros_within : p.zeros < 2 ^ lanes
  pub ones_within : p.ones < 2 ^ lanes

-- a bit at each lane in use
unfoldable pub full : ℕ → ℕ
full lanes = 2 ^ lanes - 1

-- undefined at every lane
unfoldable pub no_lanes : Pair
no_lanes = record { zeros = 0; ones = 0 }

-- the lanes at which two pairs have another value
unfoldable pub difference_of : Pair → Pair → ℕ
difference_of p q = bit_or (bit_xor p.zeros q.zeros) (bit_xor p.ones q.ones)

-- a constant, where `used` has a bit at each lane in use
unfoldable pub always : ℕ → Bool → Pair
always used false = record { zeros = used; ones = 0 }
always used true = record { zeros = 0; ones = used }

-- `and` and `nand`; `xor` and `xnor`; any other kind is `or` of its operands, or that inverted
unfoldable pub is_conjunction : ℕ → Bool
is_conjunction k = eqb k 1 || eqb k 3

unfoldable pub is_parity : ℕ → Bool
is_parity k = eqb k 5 || eqb k 6

unfoldable pub inverts : ℕ → Bool
inverts k = eqb k 0 || (eqb k 3 || (eqb k 4 || eqb k 6))

unfoldable pub both_pair : Pair → Pair → Pair
both_pair p q = record { zeros = bit_or p.zeros q.zeros; ones = bit_and p.ones q.ones }

unfoldable pub either_pair : Pair → Pair → Pair
either_pair p q = record { zeros = bit_and p.zeros q.zeros; ones = bit_or p.ones q.ones }

unfoldable pub parity_pair : Pair → Pair → Pair
parity_pair p q =
    record {
      zeros = bit_or (bit_and p.zeros q.zeros) (bit_and p.ones q.ones);
      ones = bit_or (bit_and p.zeros q.ones) (bit_and p.ones q.zeros);
    }

-- one operand more
unfoldable pub combined : ℕ → Pair → Pair → Pair
combined k p q = cond (is_conjunction k) (both_pair p q) (cond (is_parity k) (parity_pair p q) (either_pair p q))

-- of no operand
unfoldable pub neutral : ℕ → ℕ → Pair
neutral used k = always used (is_conjunction k)

unfoldable pub folded : ℕ → ℕ → List Pair → Pair
folded used k [] = neutral used k
folded used k (p ∷ ps) = combined k p (folded used k ps)

unfoldable pub swapped : Pair → Pair
swapped p = record { zeros = p.ones; ones = p.zeros }

unfoldable pub finished : ℕ → Pair → Pair
finished k p = cond (inverts k) (swapped p) p

-- the pair of a gate of kind k whose operands have the pairs ps
unfoldable pub pair_of : ℕ → ℕ → List Pair → Pair
pair_of used k ps = finished k (folded used k ps)
