-- Why `is_minimal` and `keep_minimal` are right: laws over plain lists and numbers, one for each way through the code.
-- Assumes nothing.
use mathlib.Core.Path.{◌≡◌, refl, sym, ap, ◌∙◌}
use mathlib.Core.Logic.{⊎_elim}
use mathlib.Core.Bool.{Bool, true, false, cond, not, ◌&&◌}
use mathlib.Core.List.{List, [], ◌∷◌, append-nil}
use Prim.Native.Nat.{ℕ, ◌+◌, ◌-◌, ◌*◌, ◌/◌, ◌%◌, ◌^◌, ◌≤◌, ◌<◌}
use native.Mathlib.Nat.{div-one, div-div-eq-div-mul, not-suc-le-zero}
use native.Mathlib.Numerals.{add-one}
use native.Mathlib.Omega.{arith}
use lib.Dec.{eqb}
use lib.ListN.{length, get_or, set, length-append}
use lib.Seq.{get_or-set_same, get_or-set_other}
use borrow.Author.Tests.{eq-eqb, ne_eqb}
use Rattle.prelude.specs.Lists.{all, keep, up_to}
use Rattle.prelude.proofs.Tests.{eq-or-ne}
use Rattle.prelude.proofs.Quantifiers.{all-next, all-not, all-ext}
use Rattle.theory_cover.specs.Digits.{ternary_digit, numeral}
use Rattle.theory_cover.specs.Entries.{sound_at, needed_at, minimal_at, is_left, entries_by, OnlyMinimal}
use Rattle.theory_cover.proofs.ListFacts.{keep-below, keep-up_to-suc}
use Rattle.op_cover.proofs.Bounds.{power-next}
use Rattle.op_cover.proofs.Counting.{entries-left}
use Rattle.theory_cover.proofs.Digits.{digit_lt, numeral-lt, numeral-less, numeral-digit}

-- k with a 2 at digit i is still a number of n digits
raised : ℕ → ℕ → ℕ → ℕ
raised k i j = cond (eqb j i) 2 (ternary_digit 3 k j)

module _ (n k i : ℕ) (small : k < 3 ^ n) (l : i < n) where
  raised_at : raised k i i ≡ 2
  unfolding raised
  raised_at = rw (eq-eqb i i refl)

  raised-other : (j : ℕ) → (j ≡ i → ⊥) → raised k i j ≡ ternary_digit 3 k j
  unfolding raised
  raised-other j ne = rw (ne_eqb j i ne)

  raised-digit-lt : (j : ℕ) → raised k i j < 3
  raised-digit-lt j =
      ⊎_elim (λ (e : j ≡ i). rw (e, raised_at) (omega arith))
      (λ (ne : j ≡ i → ⊥). rw (raised-other j ne) (digit_lt 3 (omega arith) k j)) (eq-or-ne j i)

  raised_lt : k + (2 - ternary_digit 3 k i) * 3 ^ i < 3 ^ n
  raised_lt =
      let d : ternary_digit 3 k i < 3 = digit_lt 3 (omega arith) k i in
      let e : numeral 3 (ternary_digit 3 k) n + (2 - ternary_digit 3 k i) * 3 ^ i ≡ numeral 3 (raised k i) n =
      numeral-less 3 (omega arith) (raised k i) (ternary_digit 3 k) n i (2 - ternary_digit 3 k i) l
      (rw raised_at (omega arith))
      (λ j m ne. sym (raised-other j ne)) in
      let f : numeral 3 (ternary_digit 3 k) n ≡ k = numeral-digit 3 (omega arith) k n small in
      let g : numeral 3 (raised k i) n < 3 ^ n = numeral-lt 3 (omega arith) (raised k i) n (λ j m. raised-digit-lt j) in
      omega arith

-- `is_minimal`: i digits of k are read, and none of these inputs can be dropped
pub record Scanned (sound : List ℕ) (n k rest power i : ℕ) : Type 0 where
  pub within : i ≤ n
  pub power-is : power ≡ 3 ^ i
  pub rest-is : rest ≡ k / 3 ^ i
  pub so_far : all (needed_at sound k) (up_to i) ≡ true

pub scan-start : (sound : List ℕ) (n k : ℕ) → Scanned sound n k k 1 0
scan-start sound n k = record { within = omega arith; power-is = refl; rest-is = sym (div-one k); so_far = refl }

module _ {sound : List ℕ} {n k rest power i : ℕ} (s : Scanned sound n k rest power i) (l : i < n) where
  digit-is : rest % 3 ≡ ternary_digit 3 k i
  unfolding ternary_digit
  digit-is = rw s.rest-is

  -- the number with the input free is one of the table
  pub freed-lt : k < 3 ^ n → k + (2 - rest % 3) * power < 3 ^ n
  freed-lt m = rw (digit-is, s.power-is) (raised_lt n k i m l)

  pub scan-next : needed_at sound k i ≡ true → Scanned sound n k (rest / 3) (power * 3) (i + 1)
  scan-next e = record {
    within = omega arith;
    power-is = power-next 3 i s.power-is;
    rest-is = rw (s.rest-is, div-div-eq-div-mul k (3 ^ i) 3, power-next 3 i {x = 3 ^ i} refl);
    so_far = all-next (needed_at sound k) i s.so_far e;
  }

  -- a free input is not dropped
  pub needed-free : rest % 3 ≡ 2 → needed_at sound k i ≡ true
  unfolding needed_at
  needed-free e = rw (eq-eqb (ternary_digit 3 k i) 2 (sym digit-is ∙ e))

  module _ (ne : rest % 3 ≡ 2 → ⊥) where
    needed-is : needed_at sound k i ≡ not (eqb (get_or sound (k + (2 - rest % 3) * power) 0) 1)
    unfolding needed_at sound_at
    needed-is = rw (ne_eqb (ternary_digit 3 k i) 2 (λ e. ne (digit-is ∙ e)), digit-is, s.power-is)

    pub needed-fixed : (get_or sound (k + (2 - rest % 3) * power) 0 ≡ 1 → ⊥) → needed_at sound k i ≡ true
    needed-fixed no_one = needed-is ∙ rw (ne_eqb (get_or sound (k + (2 - rest % 3) * power) 0) 1 no_one)

    pub not-minimal : get_or sound (k + (2 - rest % 3) * power) 0 ≡ 1 → false ≡ minimal_at sound n k
    unfolding minimal_at
    not-minimal e =
        sym (all-not (needed_at sound k) n i l (needed-is ∙ rw (eq-eqb (get_or sound (k + (2 - rest % 3) * power) 0) 1 e)))

pub scan-all : {sound : List ℕ} {n k rest power i : ℕ} → Scanned sound n k rest power i → n ≤ i
    → true ≡ minimal_at sound n k
unfolding minimal_at
scan-all {sound} {n} {k} {rest} {power} {i} s l =
    sym (ap (λ (m : ℕ). all (needed_at sound k) (up_to m)) (let e : n ≡ i = omega (arith, s.within) in e) ∙ s.so_far)

-- `keep_minimal`
pub minimal-none : (sound : List ℕ) (n : ℕ) → OnlyMinimal sound sound n 0 0
minimal-none sound n = record { left = λ k l. absurd (not-suc-le-zero l); rest = λ k l. refl; counted = refl }

module _ {sound marks : List ℕ} {n k count : ℕ} (w : OnlyMinimal sound marks n k count) where
  same-minimal : minimal_at marks n k ≡ minimal_at sound n k
  unfolding minimal_at needed_at sound_at
  same-minimal =
      all-ext (needed_at marks k) (needed_at sound k) n
      (λ i l. rw (w.rest (k + (2 - ternary_digit 3 k i) * 3 ^ i) (omega arith)))

  same-sound : sound_at marks k ≡ sound_at sound k
  unfolding sound_at
  same-sound = rw (w.rest k (omega arith))

  -- the byte at k is left as it is
  left-next : sound_at marks k ≡ is_left sound n k → (j : ℕ) → j < k + 1 → sound_at marks j ≡ is_left sound n j
  left-next e j l = ⊎_elim (λ (q : j ≡ k). rw q e) (λ (ne : j ≡ k → ⊥). w.left j (omega arith)) (eq-or-ne j k)

  skipped : is_left sound n k ≡ false → count ≡ length (keep (is_left sound n) (up_to (k + 1)))
  skipped e = w.counted ∙ sym (rw (add-one k, keep-up_to-suc (is_left sound n) k, e, append-nil))

  pub minimal-unsound : (get_or marks k 0 ≡ 1 → ⊥) → OnlyMinimal sound marks n (k + 1) count
  unfolding sound_at is_left
  minimal-unsound ne =
      let u : sound_at marks k ≡ false = ne_eqb (get_or marks k 0) 1 ne in
      let f : is_left sound n k ≡ false = rw (← same-sound, u) in
      record { left = left-next (u ∙ sym f); rest = λ j l. w.rest j (omega arith); counted = skipped f }

  pub minimal-stays : get_or marks k 0 ≡ 1 → minimal_at marks n k ≡ true → OnlyMinimal sound marks n (k + 1) (count + 1)
  unfolding sound_at is_left
  minimal-stays h e =
      let s : sound_at marks k ≡ true = eq-eqb (get_or marks k 0) 1 h in
      let f : is_left sound n k ≡ true = rw (← same-sound, ← same-minimal, s, e) in
      record {
        left = left-next (s ∙ sym f);
        rest = λ j l. w.rest j (omega arith);
        counted =
            rw (add-one k, keep-up_to-suc (is_left sound n) k, f, length-append (keep (is_left sound n) (up_to k)) (k ∷ []))
            (ap (λ (c : ℕ). c + 1) w.counted);
      }

  pub minimal-cleared : k < length marks → minimal_at marks n k ≡ false
      → OnlyMinimal sound (set marks k 0) n (k + 1) count
  unfolding sound_at is_left
  minimal-cleared b e =
      let f : is_left sound n k ≡ false = rw (← same-minimal, e) (last (sound_at sound k)) in
      record {
        left = λ j l.
            ⊎_elim (λ (q : j ≡ k). rw (q, get_or-set_same marks k 0 0 b) (sym f))
            (λ (ne : j ≡ k → ⊥). rw (get_or-set_other marks k j 0 0 ne) (w.left j (omega arith))) (eq-or-ne j k);
        rest = λ j l. get_or-set_other marks k j 0 0 (λ q. omega arith) ∙ w.rest j (omega arith);
        counted = skipped f;
      }
    where
      last : (b : Bool) → b && false ≡ false
      last true = refl
      last false = refl

-- as many are counted as there are entries
pub minimal-counted : {sound marks : List ℕ} {n count : ℕ} → OnlyMinimal sound marks n (3 ^ n) count
    → count ≡ length (entries_by marks n)
minimal-counted {sound} {marks} {n} w =
    w.counted ∙ sym (ap length (keep-below (sound_at marks) (is_left sound n) (3 ^ n) w.left))
    ∙ sym (entries-left marks n)
