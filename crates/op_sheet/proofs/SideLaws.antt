-- The inputs of records side by side: the bits of an input, its pair, and the lanes before they are settled.
--   zero_of, one_of                 the bits of a fixed input
--   values-lane, values-proper      the pair of a list of values
--   Packed, packed_none, packed-next, packed_all   the pair made from the last value to the first
--   records-started, started-lane   the lanes of the records, and the setting at each
-- Assumes nothing.
use mathlib.Core.Path.{◌≡◌, refl, sym, ap, ◌∙◌}
use mathlib.Core.Logic.{⊎_elim}
use mathlib.Core.Bool.{Bool, true, false, cond}
use mathlib.Core.List.{List, map}
use Prim.Native.Nat.{ℕ, zero, suc, ◌+◌, ◌-◌, ◌*◌, ◌^◌, ◌≤◌, ◌<◌}
use native.Mathlib.Omega.{arith}
use borrow.Author.Tests.{lt-ltb, le-ltb}
use lib.Dec.{ltb}
use lib.ListN.{length, get_or, drop, length-drop, get_or-eq_default}
use lib.Seq.{drop-length}
use lib.Pow.{pow_mono}
use Rattle.prelude.specs.Lists.{tab}
use Rattle.prelude.proofs.Tab.{length-tab, get_d-tab, map-tab}
use Rattle.prelude.proofs.Tests.{lt-or-le}
use Rattle.netlist.specs.Limits.{max_inputs, max_gates}
use Rattle.netlist.specs.Values.{Value, undefined, val, value_of}
use Rattle.netlist.specs.Assignments.{mask_of, is_one}
use Rattle.netlist.specs.Sheet.{input_byte, setting_bytes}
use Rattle.words_layout.proofs.Gathered.{mask_below, mask_next}
use Rattle.theory_grammar.proofs.Masks.{mask-bit}
use Rattle.lanes_dual_rail.specs.Pairs.{marked_lanes, lane, Proper, no_lanes}
use Rattle.lanes_dual_rail.specs.Batches.{lanes_of}
use Rattle.lanes_dual_rail.proofs.BitLaws.{bit_high}
use Rattle.lanes_dual_rail.proofs.LaneLaws.{nothing-lane}
use Rattle.lanes_dual_rail.proofs.RoundLaws.{get_d-lane}
use Rattle.lanes_batch.specs.Layered.{ConstantsStarted, InputsPut, padded}
use Rattle.lanes_batch.proofs.Starting.{padded-at, padded-proper, inputs-filled, inputs-padded, inputs-gates}
use Rattle.op_sheet.specs.Records.{is_zero, lane_value, values_pair, record_pair, RecordsStarted}

-- ---- the bits of an input that is fixed

pub zero_of : (b : ℕ) → b < 2 → 1 - b ≡ cond (is_zero (value_of b)) 1 0
unfolding is_zero value_of
zero_of zero l = refl
zero_of (suc zero) l = refl
zero_of (suc (suc b)) l = absurd (omega arith)

pub one_of : (b : ℕ) → b < 2 → b ≡ cond (is_one (value_of b)) 1 0
unfolding is_one value_of
one_of zero l = refl
one_of (suc zero) l = refl
one_of (suc (suc b)) l = absurd (omega arith)

-- ---- the pair of a list of values

marked : (v : Value) → marked_lanes (cond (is_zero v) 1 0) (cond (is_one v) 1 0) ≡ v
unfolding marked_lanes is_zero is_one
marked undefined = refl
marked (val false) = refl
marked (val true) = refl

once : (v : Value) → cond (is_zero v) 1 0 + cond (is_one v) 1 0 ≤ 1
unfolding is_zero is_one
once undefined = omega arith
once (val false) = omega arith
once (val true) = omega arith

pub values-lane : (vs : List Value) (s : ℕ) → s < length vs → lane s (values_pair vs) ≡ get_or vs s undefined
unfolding lane values_pair
values-lane vs s l = rw (mask-bit is_zero vs s l, mask-bit is_one vs s l) (marked (get_or vs s undefined))

pub values-proper : (vs : List Value) → length vs ≤ 64 → Proper 64 (values_pair vs)
unfolding values_pair
values-proper vs few =
    record {
      apart = λ s. ⊎_elim (λ l. rw (mask-bit is_zero vs s l, mask-bit is_one vs s l) (once (get_or vs s undefined)))
          (λ h. rw (bit_high _ _ s (mask_below is_zero vs) h, bit_high _ _ s (mask_below is_one vs) h) (omega arith))
          (lt-or-le s (length vs));
      zeros_within = within is_zero;
      ones_within = within is_one;
    }
  where
    within : (test : Value → Bool) → mask_of test vs < 2 ^ 64
    within test =
        let h : mask_of test vs < 2 ^ length vs = mask_below test vs in
        let p : 2 ^ length vs ≤ 2 ^ 64 = pow_mono {i = length vs} {j = 64} few in
        omega arith

-- ---- the pair made from the last value to the first

pub record Packed (vs : List Value) (s z o : ℕ) : Type 0 where
  pub below : s ≤ length vs
  pub few : length vs ≤ 64
  pub zeros : z ≡ mask_of is_zero (drop s vs)
  pub ones : o ≡ mask_of is_one (drop s vs)

pub packed_none : (vs : List Value) {s : ℕ} → s ≡ length vs → length vs ≤ 64 → Packed vs s 0 0
unfolding mask_of
packed_none vs e few =
    rw e (record { below = omega arith; few = few; zeros = rw (drop-length vs); ones = rw (drop-length vs) })

module _ {vs : List Value} {s z o : ℕ} (g : Packed vs s z o) (some : 0 < s) where
  abbrev here' : Value
  here' = get_or vs (s - 1) undefined

  next-is : (test : Value → Bool) → mask_of test (drop (s - 1) vs) ≡ cond (test here') 1 0 + 2 * mask_of test (drop s vs)
  next-is test =
      let l : s - 1 < length vs = omega (arith, g.below) in
      let e : suc (s - 1) ≡ s = omega arith in
      mask_next test vs (s - 1) l ∙ ap (λ (k : ℕ). cond (test here') 1 0 + 2 * mask_of test (drop k vs)) e

  fits : (test : Value → Bool) → mask_of test (drop (s - 1) vs) < 2 ^ 64
  fits test =
      let h : mask_of test (drop (s - 1) vs) < 2 ^ length (drop (s - 1) vs) = mask_below test (drop (s - 1) vs) in
      let e : length (drop (s - 1) vs) ≤ 64 = rw (length-drop (s - 1) vs) (omega (arith, g.few)) in
      let p : 2 ^ length (drop (s - 1) vs) ≤ 2 ^ 64 = pow_mono {i = length (drop (s - 1) vs)} {j = 64} e in
      omega arith

  pub zeros-half : 2 * z < 2 ^ 64
  zeros-half = let e = next-is is_zero in let f = fits is_zero in omega (arith, g.zeros)

  pub ones_half : 2 * o < 2 ^ 64
  ones_half = let e = next-is is_one in let f = fits is_one in omega (arith, g.ones)

  module _ {b : ℕ} (is : b ≡ cond (is_zero here') 1 0) where
    zeros-next : 2 * z + b ≡ mask_of is_zero (drop (s - 1) vs)
    zeros-next = let e = next-is is_zero in omega (arith, g.zeros)

    pub zeros-fit : 2 * z + b < 2 ^ 64
    zeros-fit = let f = fits is_zero in omega (arith, zeros-next)

  module _ {b : ℕ} (is : b ≡ cond (is_one here') 1 0) where
    ones-next : 2 * o + b ≡ mask_of is_one (drop (s - 1) vs)
    ones-next = let e = next-is is_one in omega (arith, g.ones)

    pub ones-fit : 2 * o + b < 2 ^ 64
    ones-fit = let f = fits is_one in omega (arith, ones-next)

  pub packed-next : {b c : ℕ} → b ≡ cond (is_zero here') 1 0 → c ≡ cond (is_one here') 1 0
      → Packed vs (s - 1) (2 * z + b) (2 * o + c)
  packed-next p q = record { below = omega (arith, g.below); few = g.few; zeros = zeros-next p; ones = ones-next q }

pub packed_all : {vs : List Value} {s z o : ℕ} → Packed vs s z o → s ≤ 0
    → record { zeros = z; ones = o } ≡ values_pair vs
unfolding values_pair
packed_all {vs} {s} g l =
    let e : s ≡ 0 = omega arith in
    let p : drop s vs ≡ vs = rw e in
    rw (g.zeros, g.ones, p)

-- the bit of a test, of the masks that were read for record s
pub lane-bit : (test : Value → Bool) (fixed ones : List ℕ) (i count s : ℕ) {f v b : ℕ} → s < count
    → f ≡ get_or fixed s 0 → v ≡ get_or ones s 0
    → b ≡ cond (test (value_of (input_byte f v i))) 1 0
    → b ≡ cond (test (get_or (tab (lane_value fixed ones i) count) s undefined)) 1 0
unfolding lane_value
lane-bit test fixed ones i count s l ef ev e = rw (get_d-tab (lane_value fixed ones i) count s undefined l, ← ef, ← ev) e

-- ---- the lanes before they are settled

module _ (n count : ℕ) (fixed ones : List ℕ) (few_inputs : n ≤ max_inputs) where
  pairs-proper : count ≤ 64 → (i : ℕ) → i < n → Proper 64 (record_pair count fixed ones i)
  unfolding record_pair
  pairs-proper few i l =
      values-proper (tab (lane_value fixed ones i) count) (rw (length-tab (lane_value fixed ones i) count) few)

  pub records-started : {m : ℕ} {c d : List ℕ} → m ≤ max_gates → count ≤ 64 → ConstantsStarted m 6 c
      → InputsPut (record_pair count fixed ones) n c d
      → RecordsStarted m n count fixed ones d
  unfolding lanes_of
  records-started few_gates few started inputs =
      let padding = inputs-padded few_gates few_inputs started inputs in
      record {
        fresh = record {
          filled = inputs-filled few_gates few_inputs started inputs;
          inputs_proper = rw padding (padded-proper n (record_pair count fixed ones) few_inputs (pairs-proper few));
          gates = inputs-gates few_gates few_inputs started inputs;
        };
        inputs = padding;
      }

  -- at the lane of a record stand its setting's values
  pub started-lane : (s : ℕ) → s < count → (i : ℕ)
      → get_or (map (lane s) (padded n (record_pair count fixed ones))) i undefined
      ≡ get_or (map value_of (setting_bytes n (get_or fixed s 0) (get_or ones s 0))) i undefined
  unfolding setting_bytes record_pair lane_value
  started-lane s l i =
      get_d-lane s (padded n (record_pair count fixed ones)) i
      ∙ ap (lane s) (padded-at n (record_pair count fixed ones) few_inputs i)
      ∙ ⊎_elim own past (lt-or-le i n)
      ∙ ap (λ (x : List Value). get_or x i undefined) (sym (map-tab value_of byte n))
    where
      byte : ℕ → ℕ
      byte = input_byte (get_or fixed s 0) (get_or ones s 0)

      own : i < n
          → lane s (cond (ltb i n) (record_pair count fixed ones i) no_lanes)
          ≡ get_or (tab (λ k. value_of (byte k)) n) i undefined
      own h =
          rw (lt-ltb i n h, get_d-tab (λ k. value_of (byte k)) n i undefined h)
          (values-lane (tab (lane_value fixed ones i) count) s (rw (length-tab (lane_value fixed ones i) count) l)
          ∙ get_d-tab (lane_value fixed ones i) count s undefined l)

      past : n ≤ i
          → lane s (cond (ltb i n) (record_pair count fixed ones i) no_lanes)
          ≡ get_or (tab (λ k. value_of (byte k)) n) i undefined
      past h =
          rw (le-ltb i n h)
          (nothing-lane s
          ∙ sym (get_or-eq_default (tab (λ k. value_of (byte k)) n) undefined
          (rw (length-tab (λ k. value_of (byte k)) n) h)))
