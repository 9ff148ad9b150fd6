-- The masks of values in a row, gathered from the last value to the first: the turns of the loop. Assumes nothing.
--   other-bit, high_bit: the bits of codes that are not 1, or neither 0 nor 1
--   mask_below, mask_next: a mask's size, and one value more in front
--   Gathered, gathered_none, gathered_next, gathered-all: the loop's state, and its turns
--   bit_at: the bit of the code at a place
use mathlib.Core.Path.{◌≡◌, refl, sym, ap, ◌∙◌}
use mathlib.Core.Bool.{Bool, true, false, cond}
use mathlib.Core.List.{List, [], ◌∷◌, map}
use Prim.Native.Nat.{ℕ, zero, suc, ◌+◌, ◌-◌, ◌*◌, ◌^◌, ◌≤◌, ◌<◌}
use native.Mathlib.Nat.{pow-suc}
use native.Mathlib.Omega.{arith}
use lib.ListN.{length, get_or, drop, length-drop, length-map, get_or-map}
use lib.Seq.{drop-cons, drop-length}
use lib.Pow.{pow_mono}
use Rattle.prelude.proofs.Elements.{get_d-defaults}
use Rattle.netlist.specs.Values.{Value, undefined, value_of, is_defined}
use Rattle.netlist.specs.Assignments.{mask_of, is_one}
use Rattle.words_layout.specs.Masks.{mask_bits, masks_of}

-- a code other than 1 has no bit in the mask of those at 1
pub other-bit : (v : ℕ) → (v ≡ 1 → ⊥) → cond (is_one (value_of v)) 1 0 ≡ zero
unfolding is_one value_of
other-bit zero h = refl
other-bit (suc zero) h = absurd (h refl)
other-bit (suc (suc v)) h = refl

-- a code above 1 is no value
pub high_bit : (v : ℕ) → 1 < v → cond (is_defined (value_of v)) 1 0 ≡ zero
unfolding is_defined value_of
high_bit zero h = absurd (omega arith)
high_bit (suc zero) h = absurd (omega arith)
high_bit (suc (suc v)) h = refl

-- ---- masks

-- a mask of k values has k bits
pub mask_below : (test : Value → Bool) (vs : List Value) → mask_of test vs < 2 ^ length vs
unfolding mask_of
mask_below test [] = omega arith
mask_below test (v ∷ vs) =
    let h : mask_of test vs < 2 ^ length vs = mask_below test vs in
    let e : 2 ^ suc (length vs) ≡ 2 ^ length vs * 2 = pow-suc 2 (length vs) in
    let b : cond (test v) 1 0 ≤ 1 = bit-small (test v) in
    omega arith
  where
    bit-small : (t : Bool) → cond t 1 0 ≤ 1
    bit-small true = omega arith
    bit-small false = omega arith

-- the mask from value o on, from that of the values behind it
pub mask_next : (test : Value → Bool) (vs : List Value) (o : ℕ) → o < length vs
    → mask_of test (drop o vs) ≡ cond (test (get_or vs o undefined)) 1 0 + 2 * mask_of test (drop (suc o) vs)
unfolding mask_of
mask_next test vs o l = rw (drop-cons vs o undefined l)

-- the loop's state: the masks of the values from o on
pub record Gathered (vs : List Value) (o defined_mask one_mask : ℕ) : Type 0 where
  pub below : o ≤ length vs
  pub few : length vs ≤ mask_bits
  pub defineds : defined_mask ≡ mask_of is_defined (drop o vs)
  pub ones : one_mask ≡ mask_of is_one (drop o vs)

pub gathered_none : (vs : List Value) {o : ℕ} → o ≡ length vs → length vs ≤ mask_bits → Gathered vs o 0 0
unfolding mask_of
gathered_none vs e few =
    rw e (record { below = omega arith; few = few; defineds = rw (drop-length vs); ones = rw (drop-length vs) })

module _ {vs : List Value} {o d v : ℕ} (g : Gathered vs o d v) (some : 0 < o) where
  -- the value of this turn
  abbrev here' : Value
  here' = get_or vs (o - 1) undefined

  next-is : (test : Value → Bool) → mask_of test (drop (o - 1) vs) ≡ cond (test here') 1 0 + 2 * mask_of test (drop o vs)
  next-is test =
      let l : o - 1 < length vs = omega (arith, g.below) in
      let e : suc (o - 1) ≡ o = omega arith in
      mask_next test vs (o - 1) l ∙ ap (λ (k : ℕ). cond (test here') 1 0 + 2 * mask_of test (drop k vs)) e

  fits : (test : Value → Bool) → mask_of test (drop (o - 1) vs) < 2 ^ 16
  fits test =
      let h : mask_of test (drop (o - 1) vs) < 2 ^ length (drop (o - 1) vs) = mask_below test (drop (o - 1) vs) in
      let e : length (drop (o - 1) vs) ≤ 16 = rw (length-drop (o - 1) vs) (omega (arith, g.few)) in
      let p : 2 ^ length (drop (o - 1) vs) ≤ 2 ^ 16 = pow_mono {i = length (drop (o - 1) vs)} {j = 16} e in
      omega arith

  pub defined-half : 2 * d < 2 ^ 16
  defined-half = let e = next-is is_defined in let f = fits is_defined in omega (arith, g.defineds)

  pub one-half : 2 * v < 2 ^ 16
  one-half = let e = next-is is_one in let f = fits is_one in omega (arith, g.ones)

  module _ {b : ℕ} (is : b ≡ cond (is_defined here') 1 0) where
    pub defined-next : 2 * d + b ≡ mask_of is_defined (drop (o - 1) vs)
    defined-next = let e = next-is is_defined in omega (arith, g.defineds)

    pub defined-fits : 2 * d + b < 2 ^ 16
    defined-fits = let f = fits is_defined in omega (arith, defined-next)

  module _ {b : ℕ} (is : b ≡ cond (is_one here') 1 0) where
    pub one-next : 2 * v + b ≡ mask_of is_one (drop (o - 1) vs)
    one-next = let e = next-is is_one in omega (arith, g.ones)

    pub one-fits : 2 * v + b < 2 ^ 16
    one-fits = let f = fits is_one in omega (arith, one-next)

  pub gathered_next : {b c : ℕ} → b ≡ cond (is_defined here') 1 0 → c ≡ cond (is_one here') 1 0
      → Gathered vs (o - 1) (2 * d + b) (2 * v + c)
  gathered_next p q =
      record { below = omega (arith, g.below); few = g.few; defineds = defined-next p; ones = one-next q }

-- the masks of all values
pub gathered-all : {vs : List Value} {o d v : ℕ} → Gathered vs o d v → o ≤ 0
    → record { defined = d; ones = v } ≡ masks_of vs
unfolding masks_of
gathered-all {vs} {o} g z =
    let e : o ≡ 0 = omega arith in
    let p : drop o vs ≡ vs = rw e in
    rw (g.defineds, g.ones, p)

-- the bit of a test, of the code at place i
pub bit_at : (test : Value → Bool) (values : List ℕ) (i : ℕ) {b : ℕ} → i < length values
    → b ≡ cond (test (value_of (get_or values i 0))) 1 0
    → b ≡ cond (test (get_or (map value_of values) i undefined)) 1 0
bit_at test values i l e =
    let g : value_of (get_or values i 0) ≡ get_or (map value_of values) i undefined = sym (get_or-map value_of values i 0)
    ∙ get_d-defaults (map value_of values) i (value_of 0) undefined (rw (length-map values value_of) l) in
    e ∙ ap (λ (x : Value). cond (test x) 1 0) g
