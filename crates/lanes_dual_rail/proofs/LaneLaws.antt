-- Pairs of words lane by lane: each lane of a gate's pair, computed from its operands' pairs, is the three-valued rule
-- at that lane.
--   nothing-lane, always-lane       the pairs of undefined and of a constant
--   combined-lane, swapped-lane     an operand more; exchanged words
--   *-proper                        proper pairs give proper pairs
--   pair_of-lane, pair_of-proper      one gate
-- Assumes nothing.
use mathlib.Core.Path.{◌≡◌, refl, sym, ◌∙◌}
use mathlib.Core.Bool.{Bool, true, false, cond}
use mathlib.Core.List.{List, [], ◌∷◌, map}
use Prim.Native.Nat.{ℕ, zero, suc, ◌+◌, ◌^◌, ◌≤◌, ◌<◌, min, max, zero-le}
use native.Mathlib.Omega.{arith}
use lib.Bits.{bit_and, bit_or, and_lt, or_lt}
use lib.ListN.{length, length-map}
use lib.Pow.{pow_pos, ones_lt}
use mathlib.Core.Logic.{⊎_elim}
use Rattle.prelude.proofs.Tests.{lt-or-le}
use Rattle.theory_fixpoint.specs.Order.{Below}
use Rattle.theory_fixpoint.proofs.Values.{undefined-not-val}
use Rattle.netlist.specs.Values.{Value, undefined, val, invert}
use Rattle.netlist.specs.Kinds.{gate_value}
use Rattle.netlist.specs.Assignments.{bit}
use Rattle.lanes_dual_rail.specs.declared.Pair.{Pair}
use Rattle.lanes_dual_rail.specs.Pairs.{marked_lanes, lane, Proper, full, no_lanes, always, is_conjunction, is_parity}
use Rattle.lanes_dual_rail.specs.Pairs.{inverts, both_pair, either_pair, parity_pair}
use Rattle.lanes_dual_rail.specs.Pairs.{combined, neutral, folded, swapped, finished, pair_of}
use Rattle.lanes_dual_rail.specs.PairRounds.{AllProper}
use Rattle.lanes_dual_rail.proofs.BitLaws.{bit-low, bit-zero, bit_high, bit-and, bit-or, bit-full, le-by-bits}
use Rattle.lanes_dual_rail.proofs.Folding.{both, either, differing, combined_value, folded_value, finished_value}
use Rattle.lanes_dual_rail.proofs.Folding.{gate_value-folded}

-- the three ways that two bits of a lane can stand, and the value that they mark
data Marks : ℕ → ℕ → Value → Type 0 where
  unset : Marks 0 0 undefined
  zero_set : Marks 1 0 (val false)
  one_set : Marks 0 1 (val true)

marks : (z o : ℕ) → z + o ≤ 1 → Marks z o (marked_lanes z o)
unfolding marked_lanes
marks zero zero h = unset
marks zero (suc zero) h = one_set
marks zero (suc (suc o)) h = absurd (omega arith)
marks (suc zero) zero h = zero_set
marks (suc zero) (suc o) h = absurd (omega arith)
marks (suc (suc z)) o h = absurd (omega arith)

marks-apart : {z o : ℕ} {v : Value} → Marks z o v → z + o ≤ 1
marks-apart unset = omega arith
marks-apart zero_set = omega arith
marks-apart one_set = omega arith

marks-value : {z o : ℕ} {v : Value} → Marks z o v → marked_lanes z o ≡ v
unfolding marked_lanes
marks-value unset = refl
marks-value zero_set = refl
marks-value one_set = refl

-- the operations on two lanes
both-marks : {z o z' o' : ℕ} {v w : Value} → Marks z o v → Marks z' o' w → Marks (max z z') (min o o') (both v w)
unfolding both
both-marks unset unset = unset
both-marks unset zero_set = zero_set
both-marks unset one_set = unset
both-marks zero_set unset = zero_set
both-marks zero_set zero_set = zero_set
both-marks zero_set one_set = zero_set
both-marks one_set unset = unset
both-marks one_set zero_set = zero_set
both-marks one_set one_set = one_set

either-marks : {z o z' o' : ℕ} {v w : Value} → Marks z o v → Marks z' o' w → Marks (min z z') (max o o') (either v w)
unfolding either
either-marks unset unset = unset
either-marks unset zero_set = unset
either-marks unset one_set = one_set
either-marks zero_set unset = unset
either-marks zero_set zero_set = zero_set
either-marks zero_set one_set = one_set
either-marks one_set unset = one_set
either-marks one_set zero_set = one_set
either-marks one_set one_set = one_set

parity-marks : {z o z' o' : ℕ} {v w : Value} → Marks z o v → Marks z' o' w
    → Marks (max (min z z') (min o o')) (max (min z o') (min o z')) (differing v w)
unfolding differing
parity-marks unset unset = unset
parity-marks unset zero_set = unset
parity-marks unset one_set = unset
parity-marks zero_set unset = unset
parity-marks zero_set zero_set = zero_set
parity-marks zero_set one_set = one_set
parity-marks one_set unset = unset
parity-marks one_set zero_set = one_set
parity-marks one_set one_set = zero_set

swapped-marks : {z o : ℕ} {v : Value} → Marks z o v → Marks o z (invert v)
unfolding invert
swapped-marks unset = unset
swapped-marks zero_set = one_set
swapped-marks one_set = zero_set

-- ---- the same of two pairs

-- lane s of the pair holds v, and at most one of its bits is set
abbrev Holds : ℕ → Pair → Value → Type 0
Holds s p v = Marks (bit p.zeros s) (bit p.ones s) v

holds : {lanes : ℕ} {p : Pair} (s : ℕ) → Proper lanes p → Holds s p (lane s p)
unfolding lane
holds {lanes} {p} s h = marks (bit p.zeros s) (bit p.ones s) (h.apart s)

combined-holds : (k s : ℕ) (p q : Pair) {v w : Value} → Holds s p v → Holds s q w
    → Holds s (combined k p q) (combined_value k v w)
unfolding combined combined_value both_pair either_pair parity_pair
combined-holds k s p q {v} {w} h l = go (is_conjunction k) (is_parity k)
  where
    go : (c d : Bool)
        → Holds s (cond c (both_pair p q) (cond d (parity_pair p q) (either_pair p q)))
        (cond c (both v w) (cond d (differing v w) (either v w)))
    go true d = rw (bit-or, bit-and) (both-marks h l)
    go false true = simp (bit-or, bit-and) (parity-marks h l)
    go false false = rw (bit-and, bit-or) (either-marks h l)

swapped-holds : (s : ℕ) (p : Pair) {v : Value} → Holds s p v → Holds s (swapped p) (invert v)
unfolding swapped
swapped-holds s p h = swapped-marks h

finished-holds : (k s : ℕ) (p : Pair) {v : Value} → Holds s p v → Holds s (finished k p) (finished_value k v)
unfolding finished finished_value
finished-holds k s p {v} h = go (inverts k)
  where
    go : (b : Bool) → Holds s (cond b (swapped p) p) (cond b (invert v) v)
    go true = swapped-holds s p h
    go false = h

nothing-holds : (s : ℕ) → Holds s no_lanes undefined
unfolding no_lanes
nothing-holds s = rw (bit-zero s) unset

always-holds : (lanes s : ℕ) (b : Bool) → s < lanes → Holds s (always (full lanes) b) (val b)
unfolding always
always-holds lanes s false l = rw (bit-full lanes s l, bit-zero s) zero_set
always-holds lanes s true l = rw (bit-full lanes s l, bit-zero s) one_set

-- ---- proper pairs give proper pairs

pub rest-proper : {lanes : ℕ} {p : Pair} {ps : List Pair} → AllProper lanes (p ∷ ps) → AllProper lanes ps
rest-proper h = record { each = λ k. h.each (suc k) }

pub nothing-proper : (lanes : ℕ) → Proper lanes no_lanes
unfolding no_lanes
nothing-proper lanes =
    record {
      apart = λ s. marks-apart (nothing-holds s);
      zeros_within = pow_pos lanes;
      ones_within = pow_pos lanes;
    }

pub always-proper : (lanes : ℕ) (b : Bool) → Proper lanes (always (full lanes) b)
unfolding always full
always-proper lanes false =
    record {
      apart = λ s. let l = bit-low (full lanes) s in rw (bit-zero s) (omega arith);
      zeros_within = ones_lt lanes;
      ones_within = pow_pos lanes;
    }
always-proper lanes true =
    record {
      apart = λ s. let l = bit-low (full lanes) s in rw (bit-zero s) (omega arith);
      zeros_within = pow_pos lanes;
      ones_within = ones_lt lanes;
    }

module _ {lanes : ℕ} where
  pub combined-proper : (k : ℕ) {p q : Pair} → Proper lanes p → Proper lanes q → Proper lanes (combined k p q)
  unfolding combined both_pair either_pair parity_pair
  combined-proper k {p} {q} h l =
      record {
        apart = λ s. marks-apart (combined-holds k s p q (holds s h) (holds s l));
        zeros_within = zeros_below (is_conjunction k) (is_parity k);
        ones_within = ones_below (is_conjunction k) (is_parity k);
      }
    where
      all∧ : {a b : ℕ} → a < 2 ^ lanes → b < 2 ^ lanes → bit_and a b < 2 ^ lanes
      all∧ {a} {b} = and_lt lanes a b

      all∨ : {a b : ℕ} → a < 2 ^ lanes → b < 2 ^ lanes → bit_or a b < 2 ^ lanes
      all∨ {a} {b} = or_lt lanes a b

      zeros_below : (c d : Bool) → (cond c (both_pair p q) (cond d (parity_pair p q) (either_pair p q))).zeros < 2 ^ lanes
      zeros_below true d = all∨ h.zeros_within l.zeros_within
      zeros_below false true = all∨ (all∧ h.zeros_within l.zeros_within) (all∧ h.ones_within l.ones_within)
      zeros_below false false = all∧ h.zeros_within l.zeros_within

      ones_below : (c d : Bool) → (cond c (both_pair p q) (cond d (parity_pair p q) (either_pair p q))).ones < 2 ^ lanes
      ones_below true d = all∧ h.ones_within l.ones_within
      ones_below false true = all∨ (all∧ h.zeros_within l.ones_within) (all∧ h.ones_within l.zeros_within)
      ones_below false false = all∨ h.ones_within l.ones_within

  pub finished-proper : (k : ℕ) {p : Pair} → Proper lanes p → Proper lanes (finished k p)
  unfolding finished swapped
  finished-proper k {p} h = go (inverts k)
    where
      go : (b : Bool) → Proper lanes (cond b (swapped p) p)
      go true =
          record {
            apart = λ s. marks-apart (swapped-holds s p (holds s h));
            zeros_within = h.ones_within;
            ones_within = h.zeros_within;
          }
      go false = h

  folded-proper : (k : ℕ) (ps : List Pair) → AllProper lanes ps → Proper lanes (folded (full lanes) k ps)
  unfolding folded neutral
  folded-proper k [] h = always-proper lanes (is_conjunction k)
  folded-proper k (p ∷ ps) h = combined-proper k (h.each 0) (folded-proper k ps (rest-proper h))

  pub pair_of-proper : (k : ℕ) (ps : List Pair) → AllProper lanes ps → Proper lanes (pair_of (full lanes) k ps)
  unfolding pair_of
  pair_of-proper k ps h = finished-proper k (folded-proper k ps h)

  -- ---- one gate, lane by lane

  folded-holds : (k s : ℕ) (ps : List Pair) → s < lanes → AllProper lanes ps
      → Holds s (folded (full lanes) k ps) (folded_value k (map (lane s) ps))
  unfolding folded neutral folded_value
  folded-holds k s [] l h = always-holds lanes s (is_conjunction k) l
  folded-holds k s (p ∷ ps) l h =
      combined-holds k s p (folded (full lanes) k ps) (holds s (h.each 0)) (folded-holds k s ps l (rest-proper h))

  pub pair_of-lane : (k s : ℕ) (ps : List Pair) → s < lanes → AllProper lanes ps → k ≤ 6 → (k ≡ 0 → length ps ≡ 1)
      → lane s (pair_of (full lanes) k ps) ≡ gate_value k (map (lane s) ps)
  unfolding pair_of lane
  pair_of-lane k s ps l h few one =
      marks-value (finished-holds k s (folded (full lanes) k ps) (folded-holds k s ps l h))
      ∙ sym (gate_value-folded k (map (lane s) ps) few (λ e. length-map ps (lane s) ∙ one e))

-- ---- constants

pub nothing-lane : (s : ℕ) → lane s no_lanes ≡ undefined
unfolding lane
nothing-lane s = marks-value (nothing-holds s)

pub always-lane : (lanes s : ℕ) (b : Bool) → s < lanes → lane s (always (full lanes) b) ≡ val b
unfolding lane
always-lane lanes s b l = marks-value (always-holds lanes s b l)

-- ---- pairs that say more

true-not-false : val true ≡ val false → ⊥
true-not-false e = let z : ◌≡◌ {A = ℕ} 0 1 = cc in omega arith

invert-below : (v w : Value) → Below v w → Below (invert v) (invert w)
unfolding invert
invert-below undefined w h b e = absurd (undefined-not-val e)
invert-below (val c) w h b e = rw (h c refl) e

zeros-below : {z o z' o' : ℕ} {v w : Value} → Marks z o v → Marks z' o' w → Below v w → z ≤ z'
zeros-below unset h l = zero-le
zeros-below one_set h l = zero-le
zeros-below zero_set unset l = absurd (undefined-not-val (l false refl))
zeros-below zero_set zero_set l = omega arith
zeros-below zero_set one_set l = absurd (true-not-false (l false refl))

ones_below : {z o z' o' : ℕ} {v w : Value} → Marks z o v → Marks z' o' w → Below v w → o ≤ o'
ones_below {v = v} {w = w} h l k = zeros-below (swapped-marks h) (swapped-marks l) (invert-below v w k)

-- a pair that says at every lane no less has no smaller words
pub below-words : {lanes : ℕ} {p q : Pair} → Proper lanes p → Proper lanes q
    → ((s : ℕ) → s < lanes → Below (lane s p) (lane s q))
    → (p.zeros ≤ q.zeros) × (p.ones ≤ q.ones)
below-words {lanes} {p} {q} h k below = (
  le-by-bits p.zeros q.zeros (λ s. ⊎_elim (zeros-in s) (zeros-out s) (lt-or-le s lanes)),
  le-by-bits p.ones q.ones (λ s. ⊎_elim (ones_in s) (ones-out s) (lt-or-le s lanes)),
)
  where
    zeros-in : (s : ℕ) → s < lanes → bit p.zeros s ≤ bit q.zeros s
    zeros-in s l = zeros-below (holds s h) (holds s k) (below s l)

    zeros-out : (s : ℕ) → lanes ≤ s → bit p.zeros s ≤ bit q.zeros s
    zeros-out s l = rw (bit_high p.zeros lanes s h.zeros_within l) zero-le

    ones_in : (s : ℕ) → s < lanes → bit p.ones s ≤ bit q.ones s
    ones_in s l = ones_below (holds s h) (holds s k) (below s l)

    ones-out : (s : ℕ) → lanes ≤ s → bit p.ones s ≤ bit q.ones s
    ones-out s l = rw (bit_high p.ones lanes s h.ones_within l) zero-le
