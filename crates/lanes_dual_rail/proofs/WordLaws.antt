-- Words of lanes.
--   tells_all, tells_none, tells-and, tells-or, tells-not, tells_as   words and tests put together
--   tells-no-lane, tells-some       a word that is 0 marks no lane, another some
--   trailing-least, ones-count      what the machine's operations find
--   lane-bit                        a lane's bit as a number
--   tells-lowest, tells-count       the lowest lane, and how many
--   lowest-marked, lowest-none      a lowest lane is marked; a word without one is 0
--   lane-below                      a number that is told if it is below another
-- Assumes nothing.
use mathlib.Core.Path.{◌≡◌, refl, sym, ap, ◌∙◌}
use mathlib.Core.Logic.{◌⊎◌, ⊎_elim}
use mathlib.Core.Bool.{Bool, true, false, not, cond, ◌&&◌, ◌||◌}
use Prim.Native.Nat.{ℕ, zero, suc, ◌+◌, ◌/◌, ◌%◌, ◌^◌, ◌≤◌, ◌<◌, min, max}
use native.Mathlib.Nat.{div-one, pow-suc}
use native.Mathlib.Numerals.{one-add}
use native.Mathlib.Omega.{arith}
use lib.Bits.{bit_and, bit_or, bit_xor, differ, and_lt, or_lt, xor_lt}
use lib.Count.{ones, under, count_trailing_zeros, ones_step, trailing_le}
use lib.Dec.{eqb, ltb}
use lib.Pow.{pow_pos, pow_mono, ones_lt, shr-shr}
use borrow.Author.Tests.{eqb-false, eq-eqb, ltb-true, ltb-false}
use Rattle.std.specs.declared.option.Option.TheVariants.{None, Some}
use Rattle.std.specs.Bool.{then_some}
use Rattle.prelude.specs.Lists.{count_below, least, IfBelow}
use Rattle.prelude.proofs.Tests.{not-both, lt-or-le}
use Rattle.prelude.proofs.Counting.{count_below-ext}
use Rattle.prelude.proofs.Least.{least-below, least_at, least-is}
use Rattle.netlist.specs.Assignments.{bit}
use Rattle.lanes_dual_rail.specs.Pairs.{full}
use Rattle.lanes_dual_rail.proofs.BitLaws.{bit-low, bit-zero, bit_high, bit-and, bit-or, bit-xor, bit-full}
use Rattle.lanes_dual_rail.proofs.BitLaws.{eq-by-bits}
use Rattle.lanes_dual_rail.specs.Words.{has_lane, Tells}

-- ---- two bits

and-bit : (a b : ℕ) → a < 2 → b < 2 → eqb (min a b) 1 ≡ eqb a 1 && eqb b 1
and-bit zero zero h l = refl
and-bit zero (suc zero) h l = refl
and-bit zero (suc (suc b)) h l = absurd (omega arith)
and-bit (suc zero) zero h l = refl
and-bit (suc zero) (suc zero) h l = refl
and-bit (suc zero) (suc (suc b)) h l = absurd (omega arith)
and-bit (suc (suc a)) b h l = absurd (omega arith)

or-bit : (a b : ℕ) → a < 2 → b < 2 → eqb (max a b) 1 ≡ eqb a 1 || eqb b 1
or-bit zero zero h l = refl
or-bit zero (suc zero) h l = refl
or-bit zero (suc (suc b)) h l = absurd (omega arith)
or-bit (suc zero) zero h l = refl
or-bit (suc zero) (suc zero) h l = refl
or-bit (suc zero) (suc (suc b)) h l = absurd (omega arith)
or-bit (suc (suc a)) b h l = absurd (omega arith)

not-bit : (a : ℕ) → a < 2 → eqb (differ 1 a) 1 ≡ not (eqb a 1)
not-bit zero h = refl
not-bit (suc zero) h = refl
not-bit (suc (suc a)) h = absurd (omega arith)

module _ {lanes base : ℕ} where
  pub tells_as : {p q : ℕ → Bool} {word : ℕ} → ((s : ℕ) → p s ≡ q s) → Tells lanes base p word → Tells lanes base q word
  tells_as f t = record { within = t.within; each = λ s l. t.each s l ∙ f (base + s) }

  pub tells_all : Tells lanes base (λ _. true) (full lanes)
  unfolding has_lane full
  tells_all = record { within = ones_lt lanes; each = λ s l. eq-eqb _ _ (bit-full lanes s l) }

  pub tells_none : Tells lanes base (λ _. false) 0
  unfolding has_lane
  tells_none = record { within = pow_pos lanes; each = λ s l. rw (bit-zero s) }

  module _ {p q : ℕ → Bool} {v w : ℕ} where
    pub tells-and : Tells lanes base p v → Tells lanes base q w → Tells lanes base (λ s. p s && q s) (bit_and v w)
    unfolding has_lane
    tells-and t u =
        record {
          within = and_lt lanes v w t.within u.within;
          each =
              λ s l. rw (
                bit-and v w s,
                and-bit (bit v s) (bit w s) (bit-low v s) (bit-low w s),
                t.each s l,
                u.each s l,
              );
        }

    pub tells-or : Tells lanes base p v → Tells lanes base q w → Tells lanes base (λ s. p s || q s) (bit_or v w)
    unfolding has_lane
    tells-or t u =
        record {
          within = or_lt lanes v w t.within u.within;
          each =
              λ s l. rw (
                bit-or v w s,
                or-bit (bit v s) (bit w s) (bit-low v s) (bit-low w s),
                t.each s l,
                u.each s l,
              );
        }

  pub tells-not : {p : ℕ → Bool} {w : ℕ} → Tells lanes base p w
      → Tells lanes base (λ s. not (p s)) (bit_xor (full lanes) w)
  unfolding has_lane full
  tells-not {p} {w} t =
      record {
        within = xor_lt lanes (full lanes) w (ones_lt lanes) t.within;
        each = λ s l. rw (bit-xor (full lanes) w s, bit-full lanes s l, not-bit (bit w s) (bit-low w s), t.each s l);
      }

-- ---- single lanes

no-bit : (a s : ℕ) → has_lane a s ≡ false → bit a s ≡ 0
unfolding has_lane
no-bit a s h = omega (arith, bit-low a s, eqb-false (bit a s) 1 h)

module _ {lanes base : ℕ} {p : ℕ → Bool} {w : ℕ} (t : Tells lanes base p w) where
  past-lanes : (s : ℕ) → lanes ≤ s → has_lane w s ≡ false
  unfolding has_lane
  past-lanes s l = rw (bit_high w lanes s t.within l)

  -- a word that is 0 marks no lane
  pub tells-no-lane : w ≡ 0 → (s : ℕ) → s < lanes → p (base + s) ≡ false
  unfolding has_lane
  tells-no-lane e s l = sym (t.each s l) ∙ rw (e, bit-zero s)

  -- a word without a lane is 0
  none-zero : ((s : ℕ) → s < lanes → p (base + s) ≡ false) → w ≡ 0
  none-zero h =
      eq-by-bits w 0 (λ s. no-bit w s (⊎_elim (λ l. t.each s l ∙ h s l) (past-lanes s) (lt-or-le s lanes))
      ∙ sym (bit-zero s))

  -- a word that is not 0 marks a lane
  pub tells-some : (w ≡ 0 → ⊥) → (s : ℕ) × (s < lanes) × (p (base + s) ≡ true)
  tells-some h =
      let r = least (has_lane w) lanes in
      ⊎_elim (λ l. (r, l, sym (t.each r l) ∙ least_at (has_lane w) lanes l))
      (λ m. absurd (h (none-zero (λ s l. sym (t.each s l) ∙ least-below (has_lane w) lanes s (omega arith)))))
      (lt-or-le r lanes)

  -- the lowest lane of a word that is not 0
  pub tells-lowest : lanes ≤ 64 → (s : ℕ) → s < lanes → p (base + s) ≡ true → let r = least (has_lane w) 64 in
      (r < lanes) × (p (base + r) ≡ true) × ((i : ℕ) → i < r → p (base + i) ≡ false)
  tells-lowest few s l h =
      let r = least (has_lane w) 64 in
      let le : r ≤ s = ⊎_elim (λ m. not-both (t.each s l ∙ h) (least-below (has_lane w) 64 s m)) (λ m. m)
      (lt-or-le s r) in
      let r-in : r < lanes = omega arith in (
        r-in,
        sym (t.each r r-in) ∙ least_at (has_lane w) 64 (omega arith),
        λ i m. sym (t.each i (omega arith)) ∙ least-below (has_lane w) 64 i m,
      )

-- ---- what the machine's operations find

bit-first : (a : ℕ) → bit a 0 ≡ a % 2
unfolding bit
bit-first a = rw (div-one a)

bit-next : (a s : ℕ) → bit a (suc s) ≡ bit (a / 2) s
unfolding bit
bit-next a s = ap (λ (m : ℕ). m % 2) (sym (rw (one-add s) at (shr-shr a 1 s)))

-- the zeros below the lowest digit
trailing_below : (k a i : ℕ) → i < count_trailing_zeros k a → has_lane a i ≡ false
unfolding count_trailing_zeros has_lane
trailing_below zero a i l = absurd (omega arith)
trailing_below (suc k) a i l = go (trailing_below k (a / 2)) (a % 2) i refl l
  where
    go : ((i : ℕ) → i < count_trailing_zeros k (a / 2) → has_lane (a / 2) i ≡ false)
        → (d i : ℕ) → a % 2 ≡ d → i < under d (count_trailing_zeros k (a / 2)) → has_lane a i ≡ false
    go rest zero zero e m = rw (bit-first a, e)
    go rest zero (suc i) e m = rw (bit-next a i) (rest i (omega arith))
    go rest (suc d) i e m = absurd (omega arith)

trailing_at : (k a : ℕ) → count_trailing_zeros k a < k → has_lane a (count_trailing_zeros k a) ≡ true
unfolding count_trailing_zeros has_lane
trailing_at zero a l = absurd (omega arith)
trailing_at (suc k) a l = go (trailing_at k (a / 2)) (a % 2) refl l
  where
    t : ℕ
    t = count_trailing_zeros k (a / 2)

    go : (t < k → has_lane (a / 2) t ≡ true) → (d : ℕ) → a % 2 ≡ d → under d t < suc k → has_lane a (under d t) ≡ true
    go rest zero e m = rw (bit-next a t) (rest (omega arith))
    go rest (suc d) e m = let o : a % 2 ≡ 1 = omega arith in rw (bit-first a, o)

pub trailing-least : (a : ℕ) → count_trailing_zeros 64 a ≡ least (has_lane a) 64
trailing-least a =
    sym (least-is (has_lane a) 64 (count_trailing_zeros 64 a) (trailing_le 64 a) (trailing_below 64 a) (trailing_at 64 a))

-- the first number apart
count-first : (p : ℕ → Bool) (k : ℕ) → count_below p (suc k) ≡ cond (p 0) 1 0 + count_below (λ s. p (suc s)) k
count-first p zero = omega arith
count-first p (suc k) = let e = count-first p k in omega arith

low-one : (d : ℕ) → d < 2 → d ≡ cond (eqb d 1) 1 0
low-one zero h = refl
low-one (suc zero) h = refl
low-one (suc (suc d)) h = absurd (omega arith)

-- a lane's bit, as a number
pub lane-bit : (a s : ℕ) → bit a s ≡ cond (has_lane a s) 1 0
unfolding has_lane
lane-bit a s = low-one (bit a s) (bit-low a s)

pub ones-count : (k a : ℕ) → a < 2 ^ k → ones a ≡ count_below (has_lane a) k
unfolding ones has_lane
ones-count zero a l = let z : a ≡ 0 = omega arith in rw z
ones-count (suc k) a l =
    let e = pow-suc 2 k in
    let rest : ones (a / 2) ≡ count_below (has_lane (a / 2)) k = ones-count k (a / 2) (omega arith) in
    let first : a % 2 ≡ cond (has_lane a 0) 1 0 = rw (bit-first a) (low-one (a % 2) (omega arith)) in
    let same : count_below (λ s. has_lane a (suc s)) k ≡ count_below (has_lane (a / 2)) k =
    count_below-ext (λ s. has_lane a (suc s)) (has_lane (a / 2)) k (λ s h. ap (λ (d : ℕ). eqb d 1) (bit-next a s)) in
    omega (arith, ones_step a, count-first (has_lane a) k, rest, first, same)

-- as many lanes as settings that pass
pub tells-count : {lanes base : ℕ} {p : ℕ → Bool} {w : ℕ} → lanes ≤ 64 → Tells lanes base p w
    → count_below (has_lane w) 64 ≡ count_below (λ s. p (base + s)) lanes
tells-count {lanes} {base} {p} {w} few t =
    let more : 2 ^ lanes ≤ 2 ^ 64 = pow_mono {i = lanes} {j = 64} few in
    sym (ones-count 64 w (omega (arith, t.within, more))) ∙ ones-count lanes w t.within
    ∙ count_below-ext (has_lane w) (λ s. p (base + s)) lanes t.each

no-lane : (w s : ℕ) → w ≡ 0 → has_lane w s ≡ false
unfolding has_lane
no-lane w s z = rw (z, bit-zero s)

-- the lane that `lowest_lane` answers is marked, so that the word is not 0
pub lowest-marked : (w : ℕ) {s : ℕ} → IfBelow (least (has_lane w) 64) 64 (Some s)
    → (s ≡ least (has_lane w) 64) × (s < 64) × (w ≡ 0 → ⊥)
lowest-marked w {s} (l, e) =
    let r = least (has_lane w) 64 in
    (e, omega (arith, e, l), λ z. not-both (least_at (has_lane w) 64 l) (no-lane w r z))

pub lowest-none : {lanes : ℕ} (w : ℕ) → lanes ≤ 64 → w < 2 ^ lanes → IfBelow (least (has_lane w) 64) 64 None → w ≡ 0
lowest-none {lanes} w few l none =
    let past : 64 ≤ least (has_lane w) 64 = ⊎_elim (λ m. absurd (none m)) (λ m. m) (lt-or-le (least (has_lane w) 64) 64) in
    eq-by-bits w 0 (λ s. ⊎_elim (λ m. no-bit w s (least-below (has_lane w) 64 s (omega (arith, past, m))))
    (λ m. bit_high w lanes s l (omega arith)) (lt-or-le s 64) ∙ sym (bit-zero s))

-- a number that is told if it is below another
pub lane-below : (k n : ℕ) (b : Bool) → ltb k n ≡ b → IfBelow k n (then_some b k)
lane-below k n true e = (ltb-true k n e, refl)
lane-below k n false e = λ l. let g = ltb-false k n e in omega arith
