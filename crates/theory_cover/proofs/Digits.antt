-- Numbers and their digits determine each other, and a digit changed changes the number by that much. Assumes nothing.
use mathlib.Core.Path.{◌≡◌, refl, sym, ap, ◌∙◌}
use mathlib.Core.Logic.{⊎_elim}
use mathlib.Core.Bool.{cond}
use Prim.Native.Nat.{ℕ, zero, suc, ◌+◌, ◌-◌, ◌*◌, ◌/◌, ◌%◌, ◌^◌, ◌≤◌, ◌<◌}
use native.Mathlib.Nat.{pow-zero, pow-suc, not-suc-le-zero, mod-lt, mod-one, mod-eq_of_lt, mul_comm}
use native.Mathlib.Nat.{mul_assoc, mul_left_comm, add_comm, add-mul, one-le-pow, add-mul-div_left}
use native.Mathlib.Nat.{add-mul-mod_self_right}
use native.Mathlib.Omega.{arith}
use lib.Arith.{digits_lt, digits_div, mod-mul}
use lib.Pow.{pow-add}
use lib.Dec.{eqb}
use borrow.Author.Tests.{eq-eqb, ne_eqb}
use Rattle.prelude.proofs.Tests.{eq-or-ne}
use Rattle.theory_cover.specs.Digits.{ternary_digit, numeral}

module _ (b : ℕ) (pos : 0 < b) where
  pub digit_lt : (k i : ℕ) → ternary_digit b k i < b
  unfolding ternary_digit
  digit_lt k i = mod-lt (k / b ^ i) pos

  -- two digit lists that agree make the same number
  pub numeral-ext : (d e : ℕ → ℕ) (n : ℕ) → ((i : ℕ) → i < n → d i ≡ e i) → numeral b d n ≡ numeral b e n
  unfolding numeral
  numeral-ext d e zero h = refl
  numeral-ext d e (suc n) h =
      let i : numeral b d n ≡ numeral b e n = numeral-ext d e n (λ i l. h i (omega arith)) in
      let j : d n ≡ e n = h n (omega arith) in
      rw (i, j)

  pub numeral-lt : (d : ℕ → ℕ) (n : ℕ) → ((i : ℕ) → i < n → d i < b) → numeral b d n < b ^ n
  unfolding numeral
  numeral-lt d zero h = rw pow-zero (omega arith)
  numeral-lt d (suc n) h =
      let i : numeral b d n < b ^ n = numeral-lt d n (λ i l. h i (omega arith)) in
      let j : d n * b ^ n + numeral b d n < b * b ^ n = digits_lt (h n (omega arith)) i in
      rw (pow-suc, mul_comm (b ^ n) b) (omega arith)

  -- the digits below n are those of the number modulo b^n
  digits_mod : (k n : ℕ) → numeral b (ternary_digit b k) n ≡ k % b ^ n
  unfolding numeral ternary_digit
  digits_mod k zero = rw (pow-zero, mod-one)
  digits_mod k (suc n) =
      rw (digits_mod k n, pow-suc, mul_comm (b ^ n) b, mod-mul k pos (one-le-pow n b pos)) (omega arith)

  -- a number is made of its digits
  pub numeral-digit : (k n : ℕ) → k < b ^ n → numeral b (ternary_digit b k) n ≡ k
  numeral-digit k n l = digits_mod k n ∙ mod-eq_of_lt l

  -- what is added above a digit does not change it
  digit-below : (x y i m : ℕ) → ternary_digit b (x + y * b ^ suc (i + m)) i ≡ ternary_digit b x i
  unfolding ternary_digit
  digit-below x y i m =
      let e : y * b ^ suc (i + m) ≡ b ^ i * (y * b ^ m * b) =
      ap (λ (z : ℕ). y * z) (pow-suc b (i + m) ∙ ap (λ (z : ℕ). z * b) (pow-add b i m))
      ∙ regroup y (b ^ i) (b ^ m) b in
      rw (e, add-mul-div_left x (y * b ^ m * b) (one-le-pow i b pos)) (add-mul-mod_self_right (x / b ^ i) (y * b ^ m) b)
    where
      regroup : (y u v w : ℕ) → y * (u * v * w) ≡ u * (y * v * w)
      regroup y u v w = rw (mul_assoc u v w, mul_left_comm y u (v * w)) (ap (λ (z : ℕ). u * z) (sym (mul_assoc y v w)))

  pub digit-numeral : (d : ℕ → ℕ) (n i : ℕ) → ((j : ℕ) → j < n → d j < b) → i < n
      → ternary_digit b (numeral b d n) i ≡ d i
  unfolding numeral ternary_digit
  digit-numeral d zero i h l = absurd (not-suc-le-zero l)
  digit-numeral d (suc n) i h l =
      ⊎_elim here (λ ne. below (omega arith) (digit-numeral d n i (λ j m. h j (omega arith)) (omega arith)))
      (eq-or-ne i n)
    where
      here : i ≡ n → ternary_digit b (numeral b d n + d n * b ^ n) i ≡ d i
      here e =
          let lt : numeral b d n < b ^ n = numeral-lt d n (λ j m. h j (omega arith)) in
          let dn : d n < b = h n (omega arith) in
          rw (e, add_comm (numeral b d n) (d n * b ^ n), digits_div (d n) lt) (mod-eq_of_lt dn)

      below : i < n → ternary_digit b (numeral b d n) i ≡ d i → ternary_digit b (numeral b d n + d n * b ^ n) i ≡ d i
      below l e =
          let k : n ≡ suc (i + (n - suc i)) = omega arith in
          ap (λ (z : ℕ). ternary_digit b (numeral b d n + d n * b ^ z) i) k
          ∙ digit-below (numeral b d n) (d n) i (n - suc i) ∙ e

  -- a number with digit i less by c
  pub numeral-less : (d e : ℕ → ℕ) (n i c : ℕ) → i < n → e i + c ≡ d i → ((j : ℕ) → j < n → (j ≡ i → ⊥) → e j ≡ d j)
      → numeral b e n + c * b ^ i ≡ numeral b d n
  unfolding numeral
  numeral-less d e zero i c l h k = absurd (not-suc-le-zero l)
  numeral-less d e (suc n) i c l h k =
      ⊎_elim here (λ ne. above (omega arith) (numeral-less d e n i c (omega arith) h (λ j m. k j (omega arith))))
      (eq-or-ne i n)
    where
      here : i ≡ n → numeral b e n + e n * b ^ n + c * b ^ i ≡ numeral b d n + d n * b ^ n
      here q =
          let f : numeral b e n ≡ numeral b d n =
          numeral-ext e d n (λ j m. k j (omega arith) (λ r. absurd (omega arith))) in
          let g : e n + c ≡ d n = rw q at h in
          let s : e n * b ^ n + c * b ^ n ≡ d n * b ^ n = sym (add-mul (e n) c (b ^ n)) ∙ ap (λ (z : ℕ). z * b ^ n) g in
          rw (f, q) (omega arith)

      above : i < n → numeral b e n + c * b ^ i ≡ numeral b d n
          → numeral b e n + e n * b ^ n + c * b ^ i ≡ numeral b d n + d n * b ^ n
      above m q =
          let f : e n ≡ d n = k n (omega arith) (λ r. absurd (omega arith)) in
          rw f (omega arith)

  -- d with digit i less by c
  less : (ℕ → ℕ) → ℕ → ℕ → ℕ → ℕ
  less d i c j = cond (eqb j i) (d j - c) (d j)

  module _ (k n i c : ℕ) (small : k < b ^ n) (below : i < n) (fits : c ≤ ternary_digit b k i) where
    less-at : less (ternary_digit b k) i c i ≡ ternary_digit b k i - c
    unfolding less
    less-at = rw (eq-eqb i i refl)

    less_other : (j : ℕ) → (j ≡ i → ⊥) → less (ternary_digit b k) i c j ≡ ternary_digit b k j
    unfolding less
    less_other j ne = rw (ne_eqb j i ne)

    less-lt : (j : ℕ) → less (ternary_digit b k) i c j < b
    less-lt j =
        let l : ternary_digit b k j < b = digit_lt k j in
        ⊎_elim (λ (e : j ≡ i). rw (e, less-at) (let m : ternary_digit b k i < b = digit_lt k i in omega arith))
        (λ (ne : j ≡ i → ⊥). rw (less_other j ne) l) (eq-or-ne j i)

    made : numeral b (less (ternary_digit b k) i c) n + c * b ^ i ≡ k
    made =
        numeral-less (ternary_digit b k) (less (ternary_digit b k) i c) n i c below (rw less-at (omega arith))
        (λ j l ne. less_other j ne)
        ∙ numeral-digit k n small

    pub lowered-le : c * b ^ i ≤ k
    lowered-le = let e : numeral b (less (ternary_digit b k) i c) n + c * b ^ i ≡ k = made in omega arith

    lowered : (j : ℕ) → j < n → ternary_digit b (k - c * b ^ i) j ≡ less (ternary_digit b k) i c j
    lowered j l =
        let e : numeral b (less (ternary_digit b k) i c) n + c * b ^ i ≡ k = made in
        let f : k - c * b ^ i ≡ numeral b (less (ternary_digit b k) i c) n = omega arith in
        rw f (digit-numeral (less (ternary_digit b k) i c) n j (λ m q. less-lt m) l)

    -- less by c at digit i, the number has that digit less by c and the others as they were
    pub digit-lowered : ternary_digit b (k - c * b ^ i) i ≡ ternary_digit b k i - c
    digit-lowered = lowered i below ∙ less-at

    pub digit-kept : (j : ℕ) → j < n → (j ≡ i → ⊥) → ternary_digit b (k - c * b ^ i) j ≡ ternary_digit b k j
    digit-kept j l ne = lowered j l ∙ less_other j ne
