-- The lanes at which two pairs have another value: a bit in one of the two alone.
--   difference-within, difference-lane, difference-tells
-- Assumes nothing.
use mathlib.Core.Path.{◌≡◌, refl}
use mathlib.Core.Bool.{not}
use Prim.Native.Nat.{ℕ, zero, suc, ◌+◌, ◌^◌, ◌≤◌, ◌<◌, max}
use native.Mathlib.Nat.{zero-add}
use native.Mathlib.Omega.{arith}
use lib.Bits.{bit_xor, differ, or_lt, xor_lt}
use lib.Dec.{eqb}
use Rattle.netlist.specs.Values.{code}
use Rattle.netlist.specs.Assignments.{bit}
use Rattle.lanes_dual_rail.specs.declared.Pair.{Pair}
use Rattle.lanes_dual_rail.specs.Pairs.{marked_lanes, lane, Proper, difference_of}
use Rattle.lanes_dual_rail.specs.Words.{has_lane, Tells}
use Rattle.lanes_dual_rail.proofs.BitLaws.{bit-or, bit-xor}

-- the three ways that two bits of a lane can stand
data Bits : ℕ → ℕ → Type 0 where
  unset : Bits 0 0
  zero_set : Bits 1 0
  one_set : Bits 0 1

bits : (z o : ℕ) → z + o ≤ 1 → Bits z o
bits zero zero h = unset
bits zero (suc zero) h = one_set
bits zero (suc (suc o)) h = absurd (omega arith)
bits (suc zero) zero h = zero_set
bits (suc zero) (suc o) h = absurd (omega arith)
bits (suc (suc z)) o h = absurd (omega arith)

lane-differs : {z o z' o' : ℕ} → Bits z o → Bits z' o'
    → eqb (max (differ z z') (differ o o')) 1 ≡ not (eqb (code (marked_lanes z o)) (code (marked_lanes z' o')))
unfolding marked_lanes code
lane-differs unset unset = refl
lane-differs unset zero_set = refl
lane-differs unset one_set = refl
lane-differs zero_set unset = refl
lane-differs zero_set zero_set = refl
lane-differs zero_set one_set = refl
lane-differs one_set unset = refl
lane-differs one_set zero_set = refl
lane-differs one_set one_set = refl

module _ {lanes : ℕ} {p q : Pair} (h : Proper lanes p) (k : Proper lanes q) where
  pub difference-within : difference_of p q < 2 ^ lanes
  unfolding difference_of
  difference-within =
      or_lt lanes (bit_xor p.zeros q.zeros) (bit_xor p.ones q.ones)
      (xor_lt lanes p.zeros q.zeros h.zeros_within k.zeros_within)
      (xor_lt lanes p.ones q.ones h.ones_within k.ones_within)

  pub difference-lane : (s : ℕ) → has_lane (difference_of p q) s ≡ not (eqb (code (lane s p)) (code (lane s q)))
  unfolding difference_of has_lane lane
  difference-lane s =
      rw (
        bit-or (bit_xor p.zeros q.zeros) (bit_xor p.ones q.ones) s,
        bit-xor p.zeros q.zeros s,
        bit-xor p.ones q.ones s,
      )
      (lane-differs (bits (bit p.zeros s) (bit p.ones s) (h.apart s))
      (bits (bit q.zeros s) (bit q.ones s) (k.apart s)))

  -- where they hold another value
  pub difference-tells : Tells lanes 0 (λ s. not (eqb (code (lane s p)) (code (lane s q)))) (difference_of p q)
  difference-tells = record { within = difference-within; each = λ s l. rw (zero-add s) (difference-lane s) }
