-- The ternary number of an assignment, from the weights of its two masks, and after an input is dropped. Cited by the
-- code's proofs.
-- Assumes nothing.
use mathlib.Core.Path.{◌≡◌, refl, sym, ◌∙◌}
use mathlib.Core.Logic.{⊎_elim}
use Prim.Native.Nat.{ℕ, zero, suc, ◌+◌, ◌-◌, ◌*◌, ◌^◌, ◌≤◌, ◌<◌}
use native.Mathlib.Nat.{pow-suc, mul_assoc, add-mul}
use native.Mathlib.Omega.{arith}
use borrow.Author.Tests.{eq-eqb, ne_eqb}
use Rattle.prelude.proofs.Tests.{eq-or-ne}
use Rattle.netlist.specs.Assignments.{bit}
use Rattle.netlist.specs.Assignments.{Assignment, fixes}
use Rattle.netlist.specs.Cover.{without}
use Rattle.theory_cover.specs.Digits.{ternary_digit, numeral}
use Rattle.theory_cover.specs.Over.{Consistent}
use Rattle.theory_cover.specs.Tables.{digit_of, ternary_number, weight_of}
use Rattle.theory_cover.proofs.Digits.{numeral-lt, numeral-less, digit-numeral}
use Rattle.theory_cover.proofs.Agree.{bit-lt, without-fixed, without-fixed-other, without-ones-other}

-- the digit of a fixed input is its value, that of a free one is 2
pub digit-fixed : (a : Assignment) (i : ℕ) → bit a.fixed i ≡ 1 → digit_of a i ≡ bit a.ones i
unfolding digit_of fixes
digit-fixed a i e = rw (eq-eqb (bit a.fixed i) 1 e)

pub digit-free : (a : Assignment) (i : ℕ) → (bit a.fixed i ≡ 1 → ⊥) → digit_of a i ≡ 2
unfolding digit_of fixes
digit-free a i ne = rw (ne_eqb (bit a.fixed i) 1 ne)

digit_of-lt : (a : Assignment) (i : ℕ) → digit_of a i < 3
digit_of-lt a i =
    ⊎_elim (λ (e : bit a.fixed i ≡ 1). rw (digit-fixed a i e)
    (let b : bit a.ones i < 2 = bit-lt a.ones i in omega arith))
    (λ (ne : bit a.fixed i ≡ 1 → ⊥). rw (digit-free a i ne) (omega arith)) (eq-or-ne (bit a.fixed i) 1)

pub number_lt : (n : ℕ) (a : Assignment) → ternary_number n a < 3 ^ n
unfolding ternary_number
number_lt n a = numeral-lt 3 (omega arith) (digit_of a) n (λ i l. digit_of-lt a i)

-- the number's digits are the assignment's
pub number-digit : (n : ℕ) (a : Assignment) (i : ℕ) → i < n → ternary_digit 3 (ternary_number n a) i ≡ digit_of a i
unfolding ternary_number
number-digit n a i l = digit-numeral 3 (omega arith) (digit_of a) n i (λ j m. digit_of-lt a j) l

digit-sum : (a : Assignment) (i : ℕ) → bit a.ones i ≤ bit a.fixed i
    → digit_of a i + 2 * bit a.fixed i ≡ 2 + bit a.ones i
digit-sum a i l =
    let b : bit a.fixed i < 2 = bit-lt a.fixed i in
    ⊎_elim (λ (e : bit a.fixed i ≡ 1). rw (digit-fixed a i e, e) (omega arith))
    (λ (ne : bit a.fixed i ≡ 1 → ⊥). let z : bit a.fixed i ≡ 0 = omega arith in rw (digit-free a i ne)
    (omega arith))
    (eq-or-ne (bit a.fixed i) 1)

scaled : (d f o w : ℕ) → d + 2 * f ≡ 2 + o → d * w + 2 * (f * w) ≡ 2 * w + o * w
scaled d f o w e = rw (← mul_assoc 2 f w, ← add-mul d (2 * f) w, ← add-mul 2 o w, e)

-- the number from the weights of the two masks
pub number-weights : (n : ℕ) (a : Assignment) → ((i : ℕ) → i < n → bit a.ones i ≤ bit a.fixed i)
    → ternary_number n a + 2 * weight_of n a.fixed + 1 ≡ 3 ^ n + weight_of n a.ones
unfolding ternary_number weight_of numeral
number-weights zero a h = refl
number-weights (suc n) a h =
    let i : ternary_number n a + 2 * weight_of n a.fixed + 1 ≡ 3 ^ n + weight_of n a.ones =
    number-weights n a (λ i l. h i (omega arith)) in
    let d : digit_of a n * 3 ^ n + 2 * (bit a.fixed n * 3 ^ n) ≡ 2 * 3 ^ n + bit a.ones n * 3 ^ n =
    scaled (digit_of a n) (bit a.fixed n) (bit a.ones n) (3 ^ n) (digit-sum a n (h n (omega arith))) in
    rw (pow-suc 3 n) (omega arith)

-- a dropped input counts 2 in place of its value
pub number-without : (n : ℕ) (a : Assignment) (i : ℕ) → Consistent n a → i < n → bit a.fixed i ≡ 1
    → ternary_number n (without a i) ≡ ternary_number n a + (2 - bit a.ones i) * 3 ^ i
unfolding ternary_number
number-without n a i ok l e =
    sym (numeral-less 3 (omega arith) (digit_of (without a i)) (digit_of a) n i (2 - bit a.ones i) l here other)
  where
    here : digit_of a i + (2 - bit a.ones i) ≡ digit_of (without a i) i
    here =
        let b : bit a.ones i < 2 = bit-lt a.ones i in
        let z : bit (without a i).fixed i ≡ 0 = without-fixed n a i ok l e in
        rw (digit-fixed a i e, digit-free (without a i) i (λ f. omega arith)) (omega arith)

    other : (j : ℕ) → j < n → (j ≡ i → ⊥) → digit_of a j ≡ digit_of (without a i) j
    other j m ne =
        let f : bit (without a i).fixed j ≡ bit a.fixed j = without-fixed-other n a i ok l e j m ne in
        ⊎_elim
        (λ (g : bit a.fixed j ≡ 1). digit-fixed a j g ∙ sym (without-ones-other n a i ok l e j m ne)
        ∙ sym (digit-fixed (without a i) j (f ∙ g)))
        (λ (g : bit a.fixed j ≡ 1 → ⊥). digit-free a j g ∙ sym (digit-free (without a i) j (λ q. g (sym f ∙ q))))
        (eq-or-ne (bit a.fixed j) 1)

pub weight-lt : (n m : ℕ) → weight_of n m < 3 ^ n
unfolding weight_of
weight-lt n m = numeral-lt 3 (omega arith) (bit m) n (λ i l. let b : bit m i < 2 = bit-lt m i in omega arith)
