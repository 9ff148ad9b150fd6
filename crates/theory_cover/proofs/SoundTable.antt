-- The table of soundness: what its byte at an assignment's number says, and how a byte follows from those at smaller
-- numbers.
-- Cited by the code's proofs. Assumes nothing.
use mathlib.Core.Path.{◌≡◌, refl, sym, ap, ◌∙◌}
use mathlib.Core.Logic.{◌⊎◌, inl, inr, ⊎_elim}
use mathlib.Core.Bool.{Bool, true, false, cond, not, ◌&&◌, ◌||◌}
use Prim.Native.Nat.{ℕ, ◌-◌, ◌*◌, ◌^◌, ◌<◌}
use native.Mathlib.Nat.{one-mul}
use native.Mathlib.Omega.{arith}
use lib.Bits.{bit_and}
use lib.Dec.{eqb}
use borrow.Author.Tests.{eq-eqb, eqb-true, ne_eqb}
use Rattle.prelude.proofs.Tests.{eq-or-ne, same_test, or_cases, or_left, or_right, and_left, and_right, and_intro}
use Rattle.prelude.proofs.Quantifiers.{all-below, below_all, all-ext}
use Rattle.netlist.specs.Assignments.{bit}
use Rattle.netlist.specs.Assignments.{Assignment, agrees, fixes}
use Rattle.theory_cover.specs.Digits.{ternary_digit, numeral}
use Rattle.theory_cover.specs.Over.{sound_over}
use Rattle.theory_cover.specs.Tables.{digit_of, ternary_number, agrees_digits, sound_digits, sound_byte, byte_of}
use Rattle.theory_cover.proofs.ListFacts.{implies-use, implies-from}
use Rattle.theory_cover.proofs.Digits.{numeral-lt, digit-numeral, digit-lowered, digit-kept}
use Rattle.theory_cover.proofs.Agree.{bit-lt, bits-eq}
use Rattle.theory_cover.proofs.Numbers.{number-digit}

bit-numeral : (d : ℕ → ℕ) (n i : ℕ) → ((j : ℕ) → j < n → d j < 2) → i < n → bit (numeral 2 d n) i ≡ d i
unfolding bit ternary_digit
bit-numeral d n i h l = digit-numeral 2 (omega arith) d n i h l

-- a setting agrees with digits exactly when it has the value of each that is not 2
module _ (n : ℕ) (d : ℕ → ℕ) (s : ℕ) where
  digits-at : agrees_digits n d s ≡ true → (i : ℕ) → i < n → (d i ≡ 2) ⊎ (bit s i ≡ d i)
  unfolding agrees_digits
  digits-at h i l =
      ⊎_elim (λ e. inl (eqb-true (d i) 2 e)) (λ e. inr (eqb-true (bit s i) (d i) e))
      (or_cases (eqb (d i) 2) (eqb (bit s i) (d i)) (all-below (λ i. eqb (d i) 2 || eqb (bit s i) (d i)) n i h l))

  digits_from : ((i : ℕ) → i < n → (d i ≡ 2) ⊎ (bit s i ≡ d i)) → agrees_digits n d s ≡ true
  unfolding agrees_digits
  digits_from h =
      below_all (λ i. eqb (d i) 2 || eqb (bit s i) (d i)) n
      (λ i l.
      ⊎_elim (λ e. or_left (eqb (d i) 2) (eqb (bit s i) (d i)) (eq-eqb (d i) 2 e))
      (λ e. or_right (eqb (d i) 2) (eqb (bit s i) (d i)) (eq-eqb (bit s i) (d i) e)) (h i l))

module _ (p : ℕ → Bool) (n : ℕ) where
  sound-at : (d : ℕ → ℕ) → sound_digits p n d ≡ true → (s : ℕ) → s < 2 ^ n → agrees_digits n d s ≡ true → p s ≡ true
  unfolding sound_digits
  sound-at d h s l =
      implies-use (agrees_digits n d s) (p s) (all-below (λ s. not (agrees_digits n d s) || p s) (2 ^ n) s h l)

  sound-from : (d : ℕ → ℕ) → ((s : ℕ) → s < 2 ^ n → agrees_digits n d s ≡ true → p s ≡ true) → sound_digits p n d ≡ true
  unfolding sound_digits
  sound-from d h =
      below_all (λ s. not (agrees_digits n d s) || p s) (2 ^ n) (λ s l. implies-from (agrees_digits n d s) (p s) (h s l))

  -- digits that agree below n say the same
  sound-same : (d e : ℕ → ℕ) → ((i : ℕ) → i < n → d i ≡ e i) → sound_digits p n d ≡ sound_digits p n e
  unfolding sound_digits agrees_digits
  sound-same d e h =
      all-ext (λ s. not (agrees_digits n d s) || p s) (λ s. not (agrees_digits n e s) || p s) (2 ^ n)
      (λ s l. ap (λ (b : Bool). not b || p s)
      (all-ext (λ i. eqb (d i) 2 || eqb (bit s i) (d i)) (λ i. eqb (e i) 2 || eqb (bit s i) (e i)) n
      (λ i m. rw (h i m))))

  -- an assignment is sound exactly when its digits are
  sound-digits : (a : Assignment) → sound_over p n a ≡ sound_digits p n (digit_of a)
  unfolding sound_over sound_digits agrees agrees_digits digit_of fixes
  sound-digits a =
      all-ext (λ s. not (agrees n a s) || p s) (λ s. not (agrees_digits n (digit_of a) s) || p s) (2 ^ n)
      (λ s l. ap (λ (b : Bool). not b || p s)
      (all-ext (λ i. not (fixes a i) || eqb (bit s i) (bit a.ones i))
      (λ i. eqb (digit_of a i) 2 || eqb (bit s i) (digit_of a i)) n
      (λ i m. one (fixes a i) (bit s i) (bit a.ones i) (bit-lt a.ones i))))
    where
      one : (f : Bool) (s o : ℕ) → o < 2 → not f || eqb s o ≡ eqb (cond f o 2) 2 || eqb s (cond f o 2)
      one true s o l = rw (ne_eqb o 2 (λ e. omega arith))
      one false s o l = refl

  -- the byte at an assignment's number is 1 exactly when it is sound
  pub byte-number : (a : Assignment) → sound_byte p n (ternary_number n a) ≡ byte_of (sound_over p n a)
  unfolding sound_byte
  byte-number a =
      ap byte_of (sound-same (ternary_digit 3 (ternary_number n a)) (digit_of a) (number-digit n a) ∙ sym (sound-digits a))

  -- e is d but at i, where d has 2
  module _ (d e : ℕ → ℕ) (i : ℕ) (free : d i ≡ 2) (same : (j : ℕ) → j < n → (j ≡ i → ⊥) → e j ≡ d j) where
    loosen : (s : ℕ) → agrees_digits n e s ≡ true → agrees_digits n d s ≡ true
    loosen s g =
        digits_from n d s (λ j l. ⊎_elim (λ (q : j ≡ i). inl (rw q free))
        (λ (ne : j ≡ i → ⊥). rw (← same j l ne) (digits-at n e s g j l)) (eq-or-ne j i))

    tighten : (s : ℕ) → bit s i ≡ e i → agrees_digits n d s ≡ true → agrees_digits n e s ≡ true
    tighten s b g =
        digits_from n e s (λ j l. ⊎_elim (λ (q : j ≡ i). inr (rw q b))
        (λ (ne : j ≡ i → ⊥). rw (same j l ne) (digits-at n d s g j l)) (eq-or-ne j i))

  -- a free input is fixed either way
  split : (d e f : ℕ → ℕ) (i : ℕ) → d i ≡ 2 → e i ≡ 0 → f i ≡ 1 → ((j : ℕ) → j < n → (j ≡ i → ⊥) → e j ≡ d j)
      → ((j : ℕ) → j < n → (j ≡ i → ⊥) → f j ≡ d j) → sound_digits p n d ≡ sound_digits p n f && sound_digits p n e
  split d e f i free zero-here one-here he hf =
      same_test (sound_digits p n d) (sound_digits p n f && sound_digits p n e) apart together
    where
      apart : sound_digits p n d ≡ true → sound_digits p n f && sound_digits p n e ≡ true
      apart h =
          and_intro (sound_digits p n f) (sound_digits p n e)
          (sound-from f (λ s l g. sound-at d h s l (loosen d f i free hf s g)))
          (sound-from e (λ s l g. sound-at d h s l (loosen d e i free he s g)))

      together : sound_digits p n f && sound_digits p n e ≡ true → sound_digits p n d ≡ true
      together h =
          sound-from d (λ s l g.
          let b : bit s i < 2 = bit-lt s i in
          ⊎_elim
          (λ (q : bit s i ≡ 0). sound-at e (and_right (sound_digits p n f) (sound_digits p n e) h) s l
          (tighten d e i free he s (q ∙ sym zero-here) g))
          (λ (q : bit s i ≡ 0 → ⊥). sound-at f (and_left (sound_digits p n f) (sound_digits p n e) h) s l
          (tighten d f i free hf s (omega arith) g))
          (eq-or-ne (bit s i) 0))

  -- where no input is free, one setting agrees
  full : (d : ℕ → ℕ) → ((i : ℕ) → i < n → d i < 2) → sound_digits p n d ≡ p (numeral 2 d n)
  full d h = same_test (sound_digits p n d) (p (numeral 2 d n)) there back
    where
      lt : numeral 2 d n < 2 ^ n
      lt = numeral-lt 2 (omega arith) d n h

      there : sound_digits p n d ≡ true → p (numeral 2 d n) ≡ true
      there s = sound-at d s (numeral 2 d n) lt (digits_from n d (numeral 2 d n) (λ i l. inr (bit-numeral d n i h l)))

      back : p (numeral 2 d n) ≡ true → sound_digits p n d ≡ true
      back e =
          sound-from d (λ s l g.
          rw (bits-eq n s (numeral 2 d n) l lt (λ i m.
          ⊎_elim (λ (q : d i ≡ 2). let b : d i < 2 = h i m in absurd (omega arith))
          (λ (q : bit s i ≡ d i). q ∙ sym (bit-numeral d n i h m)) (digits-at n d s g i m)))
          e)

  -- the byte of an assignment that fixes every input
  pub byte_full : (k : ℕ) → ((i : ℕ) → i < n → ternary_digit 3 k i < 2)
      → sound_byte p n k ≡ byte_of (p (numeral 2 (ternary_digit 3 k) n))
  unfolding sound_byte
  byte_full k h = ap byte_of (full (ternary_digit 3 k) h)

  -- the byte of an assignment with a free input, from the two that fix it
  pub byte-free : (k i : ℕ) → k < 3 ^ n → i < n → ternary_digit 3 k i ≡ 2
      → sound_byte p n k ≡ bit_and (sound_byte p n (k - 3 ^ i)) (sound_byte p n (k - 2 * 3 ^ i))
  unfolding sound_byte byte_of
  byte-free k i small l free =
      ap byte_of (split (ternary_digit 3 k) (ternary_digit 3 (k - 2 * 3 ^ i)) (ternary_digit 3 (k - 3 ^ i)) i free
      (digit-lowered 3 (omega arith) k n i 2 small l (omega arith) ∙ omega arith)
      (one_less ∙ omega arith)
      (digit-kept 3 (omega arith) k n i 2 small l (omega arith))
      one_kept)
      ∙ bytes (sound_digits p n (ternary_digit 3 (k - 3 ^ i))) (sound_digits p n (ternary_digit 3 (k - 2 * 3 ^ i)))
    where
      one_less : ternary_digit 3 (k - 3 ^ i) i ≡ ternary_digit 3 k i - 1
      one_less = rw (one-mul (3 ^ i)) at (digit-lowered 3 (omega arith) k n i 1 small l (omega arith))

      one_kept : (j : ℕ) → j < n → (j ≡ i → ⊥) → ternary_digit 3 (k - 3 ^ i) j ≡ ternary_digit 3 k j
      one_kept j m ne = rw (one-mul (3 ^ i)) at (digit-kept 3 (omega arith) k n i 1 small l (omega arith) j m ne)

      bytes : (a b : Bool) → byte_of (a && b) ≡ bit_and (byte_of a) (byte_of b)
      bytes true true = refl
      bytes true false = refl
      bytes false true = refl
      bytes false false = refl
