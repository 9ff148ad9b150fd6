-- The pairs of the inputs in a batch of settings.
--   lanes_of-most                    a batch has at most 64 lanes
--   pattern-bit                     bit s of an input's pattern is the input under setting base + s
--   input_pair-lane, -proper         one input
--   input_pairs-lane, -proper        all of them: the setting
--   all_lanes, shifted-*, *-pattern the words as the code finds them
--   batch-rounds                    rounds on pairs from there are rounds under each setting
-- Assumes nothing.
use mathlib.Core.Path.{◌≡◌, refl, sym, ap, ◌∙◌}
use mathlib.Core.Logic.{⊎_elim}
use mathlib.Core.Bool.{Bool, true, false, cond}
use mathlib.Core.List.{List, map}
use Prim.Native.Nat.{ℕ, zero, suc, ◌+◌, ◌-◌, ◌*◌, ◌%◌, ◌^◌, ◌≤◌, ◌<◌, min}
use native.Mathlib.Nat.{min-le_right, min-eq_left, min-eq_right}
use native.Mathlib.Omega.{arith}
use borrow.Author.Tests.{lt-ltb, le-ltb, ne_eqb, eqb-true, eqb-false}
use lib.Bits.{bit_and, differ, xor_lt, and_le_r}
use lib.Dec.{eqb, ltb}
use lib.ListN.{get_or, get_or-eq_default}
use lib.Pow.{pow_mono, pow-lt, pow_pos, ones_lt}
use Rattle.prelude.specs.Lists.{all, tab, up_to}
use Rattle.prelude.proofs.Tests.{lt-or-le}
use Rattle.prelude.proofs.Quantifiers.{all-below}
use Rattle.prelude.proofs.Tab.{map-tab, tab-ext, length-tab, get_d-tab}
use Rattle.netlist.specs.Values.{Value, val}
use Rattle.netlist.specs.Netlist.{Block}
use Rattle.netlist.specs.Assignments.{bit}
use Rattle.netlist.specs.Rounds.{setting_of, after_rounds}
use Rattle.lanes_dual_rail.specs.Pairs.{marked_lanes, lane, Proper, full, no_lanes}
use Rattle.lanes_dual_rail.specs.PairRounds.{after_pair_rounds, AllProper}
use Rattle.lanes_dual_rail.specs.Batches.{lanes_of, patterns, pattern, input_pair, input_pairs}
use Rattle.lanes_dual_rail.proofs.BitLaws.{bit-low, bit-zero, bit-and, bit-xor, bit-full, bit-base-low}
use Rattle.lanes_dual_rail.proofs.BitLaws.{bit-base-high}
use Rattle.lanes_dual_rail.proofs.LaneLaws.{nothing-proper}
use Rattle.lanes_dual_rail.proofs.RoundLaws.{LegalGates, after_pair_rounds-lane}

pub lanes_of-most : (n : ℕ) → lanes_of n ≤ 64
unfolding lanes_of
lanes_of-most n = pow_mono {i = min n 6} {j = 6} (min-le_right n 6)

-- the six patterns, tested at each lane
patterns-test : Bool
unfolding patterns bit
patterns-test = all (λ i. all (λ s. eqb (bit (get_or patterns i 0) s) (bit s i)) (up_to 64)) (up_to 6)

patterns-bit : (i s : ℕ) → i < 6 → s < 64 → bit (get_or patterns i 0) s ≡ bit s i
unfolding patterns-test
patterns-bit i s l h =
    let t : patterns-test ≡ true = refl in
    eqb-true (bit (get_or patterns i 0) s) (bit s i)
    (all-below (λ s. eqb (bit (get_or patterns i 0) s) (bit s i)) 64 s
    (all-below (λ i. all (λ s. eqb (bit (get_or patterns i 0) s) (bit s i)) (up_to 64)) 6 i t l) h)

pub pattern-bit : (base s i : ℕ) → base % 64 ≡ 0 → s < 64 → bit (pattern base i) s ≡ bit (base + s) i
unfolding pattern
pattern-bit base s i e l = ⊎_elim low high (lt-or-le i 6)
  where
    low : i < 6 → bit (cond (ltb i 6) (get_or patterns i 0) (cond (eqb (bit base i) 1) (full 64) 0)) s ≡ bit (base + s) i
    low h = rw (lt-ltb i 6 h) (patterns-bit i s h l ∙ sym (bit-base-low base s i e l h))

    one : (t : Bool) → eqb (bit base i) 1 ≡ t → bit (cond t (full 64) 0) s ≡ bit base i
    one true f = bit-full 64 s l ∙ sym (eqb-true (bit base i) 1 f)
    one false f =
        let z : bit base i ≡ 0 = omega (arith, bit-low base i, eqb-false (bit base i) 1 f) in
        bit-zero s ∙ sym z

    high : 6 ≤ i → bit (cond (ltb i 6) (get_or patterns i 0) (cond (eqb (bit base i) 1) (full 64) 0)) s ≡ bit (base + s) i
    high h = rw (le-ltb i 6 h) (one (eqb (bit base i) 1) refl ∙ sym (bit-base-high base s i e l h))

-- the two bits of a lane in use, of an input that is b there
cut_in : (b : ℕ) → b < 2 → marked_lanes (differ 1 (min b 1)) (min b 1) ≡ val (eqb b 1)
unfolding marked_lanes
cut_in zero h = refl
cut_in (suc zero) h = refl
cut_in (suc (suc b)) h = absurd (omega arith)

cut_apart : (f b : ℕ) → f < 2 → b < 2 → differ f (min b f) + min b f ≤ 1
cut_apart zero zero h l = omega arith
cut_apart zero (suc zero) h l = omega arith
cut_apart zero (suc (suc b)) h l = absurd (omega arith)
cut_apart (suc zero) zero h l = omega arith
cut_apart (suc zero) (suc zero) h l = omega arith
cut_apart (suc zero) (suc (suc b)) h l = absurd (omega arith)
cut_apart (suc (suc f)) b h l = absurd (omega arith)

module _ (n base : ℕ) where
  pub input_pair-proper : (i : ℕ) → Proper (lanes_of n) (input_pair n base i)
  unfolding input_pair full
  input_pair-proper i =
      let ones = bit_and (pattern base i) (full (lanes_of n)) in
      let within : ones < 2 ^ lanes_of n =
      omega (arith, and_le_r (pattern base i) (full (lanes_of n)), ones_lt (lanes_of n)) in
      record {
        apart = λ s.
            rw (bit-xor, bit-and)
            (cut_apart (bit (full (lanes_of n)) s) (bit (pattern base i) s) (bit-low (full (lanes_of n)) s)
            (bit-low (pattern base i) s));
        zeros_within = xor_lt (lanes_of n) (full (lanes_of n)) ones (ones_lt (lanes_of n)) within;
        ones_within = within;
      }

  pub input_pairs-proper : AllProper (lanes_of n) (input_pairs n base)
  unfolding input_pairs
  input_pairs-proper = record { each = λ i. ⊎_elim (inside i) (past i) (lt-or-le i n) }
    where
      inside : (i : ℕ) → i < n → Proper (lanes_of n) (get_or (tab (input_pair n base) n) i no_lanes)
      inside i l = rw (get_d-tab (input_pair n base) n i no_lanes l) (input_pair-proper i)

      past : (i : ℕ) → n ≤ i → Proper (lanes_of n) (get_or (tab (input_pair n base) n) i no_lanes)
      past i l =
          let e : get_or (tab (input_pair n base) n) i no_lanes ≡ no_lanes =
          get_or-eq_default (tab (input_pair n base) n) no_lanes (rw (length-tab (input_pair n base) n) l) in
          rw e (nothing-proper (lanes_of n))

  module _ (aligned : base % 64 ≡ 0) (s : ℕ) (l : s < lanes_of n) where
    pub input_pair-lane : (i : ℕ) → lane s (input_pair n base i) ≡ val (eqb (bit (base + s) i) 1)
    unfolding lane input_pair
    input_pair-lane i =
        let few : s < 64 = omega (arith, lanes_of-most n) in
        rw (bit-xor, bit-and, bit-full (lanes_of n) s l, pattern-bit base s i aligned few)
        (cut_in (bit (base + s) i) (bit-low (base + s) i))

    -- the inputs' values at lane s are those of setting base + s
    pub input_pairs-lane : map (lane s) (input_pairs n base) ≡ setting_of n (base + s)
    unfolding input_pairs setting_of
    input_pairs-lane =
        map-tab (lane s) (input_pair n base) n
        ∙ tab-ext (λ i. lane s (input_pair n base i)) (λ i. val (eqb (bit (base + s) i) 1)) n (λ i h. input_pair-lane i)

    -- Paper 10: the two representations are equal for every gate, setting and round.
    pub batch-rounds : (b : Block) → LegalGates b → (r : ℕ)
        → map (lane s) (after_pair_rounds b (full (lanes_of n)) (input_pairs n base) r)
        ≡ after_rounds b (setting_of n (base + s)) r
    batch-rounds b legal r =
        after_pair_rounds-lane b input_pairs-proper legal s l r
        ∙ ap (λ (x : List Value). after_rounds b x r) input_pairs-lane

-- ---- the word of the lanes in use, as the code finds it

pub all_lanes : (n : ℕ) → 6 ≤ n → 2 ^ 64 - 1 ≡ full (lanes_of n)
unfolding full lanes_of
all_lanes n h = rw (min-eq_right {n = 6} {m = n} h)

-- the number of lanes, by a shift of 1
pub shifted-lanes : (n : ℕ) → n < 6 → (1 * 2 ^ n % 2 ^ 64 ≡ lanes_of n) × (lanes_of n < 64)
unfolding lanes_of
shifted-lanes n h =
    let f : 2 ^ n < 2 ^ 6 = pow-lt {i = n} {j = 6} h in
    rw (min-eq_left {n = n} {m = 6} (omega arith)) (omega arith, omega arith)

-- and the word that has so many bits
pub shifted-full : (k : ℕ) → k < 64 → (1 ≤ 1 * 2 ^ k % 2 ^ 64) × (1 * 2 ^ k % 2 ^ 64 - 1 ≡ full k)
unfolding full
shifted-full k h =
    let f : 2 ^ k < 2 ^ 64 = pow-lt {i = k} {j = 64} h in
    let p : 0 < 2 ^ k = pow_pos k in
    (omega arith, omega arith)

-- ---- a pattern, as the code finds it

pub low-pattern : (base i : ℕ) → i < 6 → get_or patterns i 0 ≡ pattern base i
unfolding pattern
low-pattern base i h = rw (lt-ltb i 6 h)

pub set-pattern : (base i : ℕ) → 6 ≤ i → bit base i ≡ 1 → 2 ^ 64 - 1 ≡ pattern base i
unfolding pattern full
set-pattern base i h e = rw (le-ltb i 6 h, e)

pub clear-pattern : (base i : ℕ) → 6 ≤ i → (bit base i ≡ 1 → ⊥) → 0 ≡ pattern base i
unfolding pattern
clear-pattern base i h n = rw (le-ltb i 6 h, ne_eqb (bit base i) 1 n)
