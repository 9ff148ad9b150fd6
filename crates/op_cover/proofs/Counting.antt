-- As many pairs of masks are entries as numbers are left in the table: each entry has its number, and each number its
-- pair. Cited by the laws of the whole cover. Assumes nothing.
--   keep-less, keep-injects   one number fewer passes; what maps into the numbers that pass, no two alike, is no more
--   number-injects            the number of an assignment determines its pair
--   pair_of, pair-number       the pair of a number
use mathlib.Core.Path.{◌≡◌, refl, sym, ap, ◌∙◌}
use mathlib.Core.Logic.{⊎_elim}
use mathlib.Core.Bool.{Bool, true, false, cond, not, ◌&&◌}
use mathlib.Core.List.{List, [], ◌∷◌, append-nil}
use Prim.Native.Nat.{ℕ, zero, suc, ◌+◌, ◌*◌, ◌/◌, ◌%◌, ◌^◌, ◌≤◌, ◌<◌}
use native.Mathlib.Nat.{mod-lt, div-lt_iff_lt-mul, div-add-mod', not-suc-le-zero, le_antisymm}
use native.Mathlib.Omega.{arith}
use lib.Arith.{digits_lt, digits_div, digits_mod}
use lib.Dec.{eqb}
use lib.ListN.{length, length-append, length-map}
use lib.Pow.{pow_pos}
use borrow.Author.Tests.{eq-eqb, ne_eqb}
use Rattle.prelude.specs.Lists.{keep, up_to}
use Rattle.prelude.proofs.Tests.{eq-or-ne, and_left, and_right, and_intro}
use Rattle.netlist.specs.Assignments.{bit, Assignment}
use Rattle.theory_cover.specs.Digits.{ternary_digit, numeral}
use Rattle.theory_cover.specs.Over.{masks}
use Rattle.theory_cover.specs.Tables.{digit_of, ternary_number}
use Rattle.theory_cover.specs.Entries.{mask_pair_at, within_at, sound_at, entry_by, entries_below, entries_by}
use Rattle.theory_cover.proofs.ListFacts.{keep-below, keep-up_to-suc}
use Rattle.theory_cover.proofs.Digits.{digit_lt, digit-numeral, numeral-lt, numeral-ext, numeral-digit}
use Rattle.theory_cover.proofs.Agree.{bit-lt, bits-eq, within-at, within-from}
use Rattle.theory_cover.proofs.Numbers.{digit-fixed, digit-free, number_lt, number-digit}

-- how many numbers below n pass
abbrev passing : (ℕ → Bool) → ℕ → ℕ
passing t n = length (keep t (up_to n))

passing-yes : (t : ℕ → Bool) (n : ℕ) → t n ≡ true → passing t (suc n) ≡ suc (passing t n)
passing-yes t n e = rw (keep-up_to-suc t n, e, length-append (keep t (up_to n)) (n ∷ [])) (omega arith)

passing-no : (t : ℕ → Bool) (n : ℕ) → t n ≡ false → passing t (suc n) ≡ passing t n
passing-no t n e = rw (keep-up_to-suc t n, e, append-nil)

but : (ℕ → Bool) → ℕ → ℕ → Bool
but t x k = t k && not (eqb k x)

but_same : (t : ℕ → Bool) (x : ℕ) → but t x x ≡ false
unfolding but
but_same t x = rw (eq-eqb x x refl) (last (t x))
  where
    last : (b : Bool) → b && false ≡ false
    last true = refl
    last false = refl

but-other : (t : ℕ → Bool) (x k : ℕ) → (k ≡ x → ⊥) → but t x k ≡ t k
unfolding but
but-other t x k ne = rw (ne_eqb k x ne) (last (t k))
  where
    last : (b : Bool) → b && true ≡ b
    last true = refl
    last false = refl

keep-less : (t : ℕ → Bool) (x n : ℕ) → x < n → t x ≡ true → passing t n ≡ suc (passing (but t x) n)
keep-less t x zero l e = absurd (not-suc-le-zero l)
keep-less t x (suc n) l e = ⊎_elim last (λ ne. before ne (keep-less t x n (omega arith) e)) (eq-or-ne x n)
  where
    last : x ≡ n → passing t (suc n) ≡ suc (passing (but t x) (suc n))
    last q =
        let k : keep t (up_to n) ≡ keep (but t x) (up_to n) =
        keep-below t (but t x) n (λ k m. sym (but-other t x k (λ r. absurd (omega arith)))) in
        passing-yes t n (rw (← q) e) ∙ ap (λ (xs : List ℕ). suc (length xs)) k
        ∙ ap suc (sym (passing-no (but t x) n (rw (← q) (but_same t x))))

    before : (x ≡ n → ⊥) → passing t n ≡ suc (passing (but t x) n) → passing t (suc n) ≡ suc (passing (but t x) (suc n))
    before ne i = go (t n) refl
      where
        same : but t x n ≡ t n
        same = but-other t x n (λ q. ne (sym q))

        go : (b : Bool) → t n ≡ b → passing t (suc n) ≡ suc (passing (but t x) (suc n))
        go true h = passing-yes t n h ∙ ap suc i ∙ ap suc (sym (passing-yes (but t x) n (same ∙ h)))
        go false h = passing-no t n h ∙ i ∙ ap suc (sym (passing-no (but t x) n (same ∙ h)))

abbrev Into : ℕ → ℕ → (ℕ → Bool) → (ℕ → Bool) → (ℕ → ℕ) → Type 0
Into m n t u f = (q : ℕ) → q < m → t q ≡ true → (f q < n) × (u (f q) ≡ true)

keep-injects : (m n : ℕ) (t u : ℕ → Bool) (f : ℕ → ℕ) → Into m n t u f
    → ((q r : ℕ) → q < m → r < m → t q ≡ true → t r ≡ true → f q ≡ f r → q ≡ r) → passing t m ≤ passing u n
keep-injects zero n t u f into apart = omega arith
keep-injects (suc m) n t u f into apart =
    go (λ v i. keep-injects m n t v f i (λ q r l k. apart q r (omega arith) (omega arith))) (t m) refl
  where
    go : ((v : ℕ → Bool) → Into m n t v f → passing t m ≤ passing v n) → (b : Bool) → t m ≡ b
        → passing t (suc m) ≤ passing u n
    go rec false h = rw (passing-no t m h) (rec u (λ q l. into q (omega arith)))
    go rec true h =
        let here = into m (omega arith) h in
        let i : passing t m ≤ passing (but u (f m)) n =
        rec (but u (f m)) (λ q l e.
        let there = into q (omega arith) e in (
          there.0,
          but-other u (f m) (f q)
              (λ s. let z : q ≡ m = apart q m (omega arith) (omega arith) e h s in absurd (omega arith)) ∙ there.1,
        )) in
        let j : passing u n ≡ suc (passing (but u (f m)) n) = keep-less u (f m) n here.0 here.1 in
        rw (passing-yes t m h, j) (omega arith)

-- the number of an assignment determines its masks
module _ (n : ℕ) (a b : Assignment) (inside-a : (i : ℕ) → i < n → bit a.ones i ≤ bit a.fixed i)
    (inside-b : (i : ℕ) → i < n → bit b.ones i ≤ bit b.fixed i) (e : ternary_number n a ≡ ternary_number n b) where
  same-digit : (i : ℕ) → i < n → digit_of a i ≡ digit_of b i
  same-digit i l = sym (number-digit n a i l) ∙ ap (λ (k : ℕ). ternary_digit 3 k i) e ∙ number-digit n b i l

  same_bits : (i : ℕ) → i < n → (bit a.fixed i ≡ bit b.fixed i) × (bit a.ones i ≡ bit b.ones i)
  same_bits i l =
      let d : digit_of a i ≡ digit_of b i = same-digit i l in
      let fa : bit a.fixed i < 2 = bit-lt a.fixed i in
      let fb : bit b.fixed i < 2 = bit-lt b.fixed i in
      let oa : bit a.ones i < 2 = bit-lt a.ones i in
      let ob : bit b.ones i < 2 = bit-lt b.ones i in
      let ia : bit a.ones i ≤ bit a.fixed i = inside-a i l in
      let ib : bit b.ones i ≤ bit b.fixed i = inside-b i l in
      ⊎_elim
      (λ (p : bit a.fixed i ≡ 1).
      let x : digit_of a i ≡ bit a.ones i = digit-fixed a i p in
      ⊎_elim (λ (q : bit b.fixed i ≡ 1). let y : digit_of b i ≡ bit
      b.ones i = digit-fixed b i q in (omega arith, omega arith))
      (λ (q : bit b.fixed i ≡ 1 → ⊥). let y : digit_of b i ≡ 2 = digit-free b i q in absurd (omega arith))
      (eq-or-ne (bit b.fixed i) 1))
      (λ (p : bit a.fixed i ≡ 1 → ⊥).
      let x : digit_of a i ≡ 2 = digit-free a i p in
      ⊎_elim (λ (q : bit b.fixed i ≡ 1). let y : digit_of b i ≡ bit b.ones i = digit-fixed b i q in absurd
      (omega arith))
      (λ (q : bit b.fixed i ≡ 1 → ⊥). (omega arith, omega arith)) (eq-or-ne (bit b.fixed i) 1))
      (eq-or-ne (bit a.fixed i) 1)

number-injects : (n q r : ℕ) → q < 2 ^ n * 2 ^ n → r < 2 ^ n * 2 ^ n → within_at n q ≡ true → within_at n r ≡ true
    → ternary_number n (mask_pair_at n q) ≡ ternary_number n (mask_pair_at n r) → q ≡ r
unfolding within_at mask_pair_at
number-injects n q r l m h k e =
    let s = same_bits n (mask_pair_at n q) (mask_pair_at n r) (within-at n (q / 2 ^ n) (q % 2 ^ n) h)
    (within-at n (r / 2 ^ n) (r % 2 ^ n) k) e in
    let f : q / 2 ^ n ≡ r / 2 ^ n =
    bits-eq n (q / 2 ^ n) (r / 2 ^ n) ((div-lt_iff_lt-mul (pow_pos n)).1 l) ((div-lt_iff_lt-mul (pow_pos n)).1 m)
    (λ i b. (s i b).0) in
    let o : q % 2 ^ n ≡ r % 2 ^ n =
    bits-eq n (q % 2 ^ n) (r % 2 ^ n) (mod-lt q (pow_pos n)) (mod-lt r (pow_pos n)) (λ i b. (s i b).1) in
    sym (div-add-mod' q (2 ^ n)) ∙ rw (f, o) (div-add-mod' r (2 ^ n))

-- the pair of a number: an input is fixed where the digit is not 2, and at 1 where it is 1
fixed_digit : ℕ → ℕ → ℕ
fixed_digit k i = cond (eqb (ternary_digit 3 k i) 2) 0 1

one_digit : ℕ → ℕ → ℕ
one_digit k i = cond (eqb (ternary_digit 3 k i) 1) 1 0

module _ (n k : ℕ) where
  fixed_of : ℕ
  fixed_of = numeral 2 (fixed_digit k) n

  ones_of : ℕ
  ones_of = numeral 2 (one_digit k) n

  pair_of : ℕ
  pair_of = fixed_of * 2 ^ n + ones_of

  fixed-lt : (i : ℕ) → fixed_digit k i < 2
  unfolding fixed_digit
  fixed-lt i = small (eqb (ternary_digit 3 k i) 2)
    where
      small : (b : Bool) → cond b 0 1 < 2
      small true = omega arith
      small false = omega arith

  ones_lt : (i : ℕ) → one_digit k i < 2
  unfolding one_digit
  ones_lt i = small (eqb (ternary_digit 3 k i) 1)
    where
      small : (b : Bool) → cond b 1 0 < 2
      small true = omega arith
      small false = omega arith

  fixed-bit : (i : ℕ) → i < n → bit fixed_of i ≡ fixed_digit k i
  unfolding fixed_of bit ternary_digit
  fixed-bit i l = digit-numeral 2 (omega arith) (fixed_digit k) n i (λ j m. fixed-lt j) l

  ones_bit : (i : ℕ) → i < n → bit ones_of i ≡ one_digit k i
  unfolding ones_of bit ternary_digit
  ones_bit i l = digit-numeral 2 (omega arith) (one_digit k) n i (λ j m. ones_lt j) l

  -- by the digit
  at-two : (i : ℕ) → ternary_digit 3 k i ≡ 2 → (fixed_digit k i ≡ 0) × (one_digit k i ≡ 0)
  unfolding fixed_digit one_digit
  at-two i e = (rw (eq-eqb (ternary_digit 3 k i) 2 e), rw (ne_eqb (ternary_digit 3 k i) 1 (λ q. omega arith)))

  at_less : (i : ℕ) → (ternary_digit 3 k i ≡ 2 → ⊥) → (fixed_digit k i ≡ 1) × (one_digit k i ≡ ternary_digit 3 k i)
  unfolding fixed_digit one_digit
  at_less i ne =
      let d : ternary_digit 3 k i < 3 = digit_lt 3 (omega arith) k i in (
        rw (ne_eqb (ternary_digit 3 k i) 2 ne),
        ⊎_elim (λ (e : ternary_digit 3 k i ≡ 1). rw (eq-eqb (ternary_digit 3 k i) 1 e) (sym e))
            (λ (no_one : ternary_digit 3 k i ≡ 1 → ⊥). rw (ne_eqb (ternary_digit 3 k i) 1 no_one) (omega arith))
            (eq-or-ne (ternary_digit 3 k i) 1),
      )

  inside : (i : ℕ) → i < n → bit ones_of i ≤ bit fixed_of i
  inside i l =
      rw (ones_bit i l, fixed-bit i l)
      (⊎_elim (λ (e : ternary_digit 3 k i ≡ 2). omega (arith, at-two i e))
      (λ (ne : ternary_digit 3 k i ≡ 2 → ⊥). omega (arith, at_less i ne, ones_lt i))
      (eq-or-ne (ternary_digit 3 k i) 2))

  digit-back : (i : ℕ) → i < n → digit_of (masks fixed_of ones_of) i ≡ ternary_digit 3 k i
  digit-back i l =
      ⊎_elim
      (λ (e : ternary_digit 3 k i ≡ 2).
      let z : bit fixed_of i ≡ 0 = fixed-bit i l ∙ (at-two i e).0 in
      digit-free (masks fixed_of ones_of) i (λ h. absurd (omega arith)) ∙ sym e)
      (λ (ne : ternary_digit 3 k i ≡ 2 → ⊥).
      digit-fixed (masks fixed_of ones_of) i (fixed-bit i l ∙ (at_less i ne).0) ∙ ones_bit i l ∙ (at_less i ne).1)
      (eq-or-ne (ternary_digit 3 k i) 2)

  masks-lt : (fixed_of < 2 ^ n) × (ones_of < 2 ^ n)
  unfolding fixed_of ones_of
  masks-lt = (
    numeral-lt 2 (omega arith) (fixed_digit k) n (λ i l. fixed-lt i),
    numeral-lt 2 (omega arith) (one_digit k) n
        (λ i l. ones_lt i),
  )

  pair_lt : pair_of < 2 ^ n * 2 ^ n
  unfolding pair_of
  pair_lt = digits_lt masks-lt.0 masks-lt.1

  pair_is : mask_pair_at n pair_of ≡ masks fixed_of ones_of
  unfolding mask_pair_at pair_of
  pair_is = rw (digits_div fixed_of masks-lt.1, digits_mod fixed_of masks-lt.1)

  pair-within : within_at n pair_of ≡ true
  unfolding within_at
  pair-within = rw pair_is (within-from n fixed_of ones_of inside)

  pair-number : k < 3 ^ n → ternary_number n (mask_pair_at n pair_of) ≡ k
  unfolding ternary_number
  pair-number l =
      rw pair_is
      (numeral-ext 3 (omega arith) (digit_of (masks fixed_of ones_of)) (ternary_digit 3 k) n digit-back ∙ numeral-digit 3
      (omega arith) k n l)

-- as many entries as numbers that are left
pub entries-left : (marks : List ℕ) (n : ℕ) → length (entries_by marks n) ≡ length (keep (sound_at marks) (up_to (3 ^ n)))
unfolding entries_by entries_below entry_by
entries-left marks n =
    length-map (keep (entry_by marks n) (up_to (2 ^ n * 2 ^ n))) (mask_pair_at n) ∙ le_antisymm there back
  where
    there : length (keep (entry_by marks n) (up_to (2 ^ n * 2 ^ n))) ≤ length (keep (sound_at marks) (up_to (3 ^ n)))
    there =
        keep-injects (2 ^ n * 2 ^ n) (3 ^ n) (entry_by marks n) (sound_at marks) (λ q. ternary_number n (mask_pair_at n q))
        (λ q l e. (
          number_lt n (mask_pair_at n q),
          and_right (within_at n q)
              (sound_at marks (ternary_number n (mask_pair_at n q))) e,
        ))
        (λ q r l m e f s.
        number-injects n q r l m (and_left (within_at n q) (sound_at marks (ternary_number n (mask_pair_at n q))) e)
        (and_left (within_at n r) (sound_at marks (ternary_number n (mask_pair_at n r))) f) s)

    back : length (keep (sound_at marks) (up_to (3 ^ n))) ≤ length (keep (entry_by marks n) (up_to (2 ^ n * 2 ^ n)))
    back =
        keep-injects (3 ^ n) (2 ^ n * 2 ^ n) (sound_at marks) (entry_by marks n) (pair_of n)
        (λ k l e. (
          pair_lt n k,
          and_intro (within_at n (pair_of n k)) (sound_at marks (ternary_number n (mask_pair_at n (pair_of n k))))
              (pair-within n k)
              (rw (pair-number n k l) e),
        ))
        (λ k j l m e f s. sym (pair-number n k l) ∙ ap (λ (q : ℕ). ternary_number n (mask_pair_at n q)) s
        ∙ pair-number n j m)
