-- Which settings agree with an assignment, by its bits; what dropping an input does; and when an assignment is sound.
-- Cited by the laws of covers and of the tables. Assumes nothing.
use mathlib.Core.Path.{◌≡◌, refl, sym, ap, ◌∙◌}
use mathlib.Core.Logic.{⊎_elim}
use mathlib.Core.Bool.{Bool, true, not, ◌||◌}
use Prim.Native.Nat.{ℕ, ◌-◌, ◌*◌, ◌/◌, ◌^◌, min, ◌≤◌, ◌<◌}
use native.Mathlib.Nat.{one-mul}
use native.Mathlib.Omega.{arith}
use lib.Pow.{pow_pos}
use lib.Bits.{bit_and, and_shr, and_step, and_le_l}
use lib.Dec.{eqb, leb}
use borrow.Author.Tests.{eq-eqb, eqb-true, le-leb, leb-true}
use Rattle.prelude.proofs.Tests.{eq-or-ne}
use Rattle.prelude.proofs.Quantifiers.{all-below, below_all}
use Rattle.netlist.specs.Assignments.{bit}
use Rattle.netlist.specs.Assignments.{Assignment, fixes, agrees, is_within}
use Rattle.netlist.specs.Cover.{without}
use Rattle.theory_cover.specs.Digits.{ternary_digit}
use Rattle.theory_cover.specs.Over.{sound_over, Consistent}
use Rattle.theory_cover.proofs.Digits.{numeral-ext, numeral-digit, digit_lt, digit-lowered, digit-kept}
use Rattle.theory_cover.proofs.Digits.{lowered-le}
use Rattle.theory_cover.proofs.ListFacts.{implies-use, implies-from}

pub bit-lt : (s i : ℕ) → bit s i < 2
unfolding bit ternary_digit
bit-lt s i = digit_lt 2 (omega arith) s i

-- two masks with the same bits are the same
pub bits-eq : (n s t : ℕ) → s < 2 ^ n → t < 2 ^ n → ((i : ℕ) → i < n → bit s i ≡ bit t i) → s ≡ t
unfolding bit ternary_digit
bits-eq n s t l m h =
    sym (numeral-digit 2 (omega arith) s n l) ∙ numeral-ext 2 (omega arith) (ternary_digit 2 s) (ternary_digit 2 t) n h
    ∙ numeral-digit 2 (omega arith) t n m

-- a mask without its bit i, which is c
module _ (m n i c : ℕ) (small : m < 2 ^ n) (below : i < n) (is : bit m i ≡ c) where
  pub bit_le : c * 2 ^ i ≤ m
  unfolding bit ternary_digit
  bit_le = let h : ternary_digit 2 m i ≡ c = is in lowered-le 2 (omega arith) m n i c small below (omega arith)

  pub bit-dropped : bit (m - c * 2 ^ i) i ≡ 0
  unfolding bit ternary_digit
  bit-dropped =
      let h : ternary_digit 2 m i ≡ c = is in
      digit-lowered 2 (omega arith) m n i c small below (omega arith) ∙ omega arith

  pub bit_kept : (j : ℕ) → j < n → (j ≡ i → ⊥) → bit (m - c * 2 ^ i) j ≡ bit m j
  unfolding bit ternary_digit
  bit_kept = let h : ternary_digit 2 m i ≡ c = is in digit-kept 2 (omega arith) m n i c small below (omega arith)

module _ (n : ℕ) (a : Assignment) (s : ℕ) where
  -- a setting agrees with an assignment exactly when it has its value at each input that it fixes
  pub agrees_at : agrees n a s ≡ true → (i : ℕ) → i < n → bit a.fixed i ≡ 1 → bit s i ≡ bit a.ones i
  unfolding agrees fixes
  agrees_at h i l e =
      eqb-true (bit s i) (bit a.ones i)
      (implies-use (fixes a i) (eqb (bit s i) (bit a.ones i))
      (all-below (λ i. not (fixes a i) || eqb (bit s i) (bit a.ones i)) n i h l) (eq-eqb (bit a.fixed i) 1 e))

  pub agrees_from : ((i : ℕ) → i < n → bit a.fixed i ≡ 1 → bit s i ≡ bit a.ones i) → agrees n a s ≡ true
  unfolding agrees fixes
  agrees_from h =
      below_all (λ i. not (fixes a i) || eqb (bit s i) (bit a.ones i)) n
      (λ i l. implies-from (fixes a i) (eqb (bit s i) (bit a.ones i))
      (λ e. eq-eqb (bit s i) (bit a.ones i) (h i l (eqb-true (bit a.fixed i) 1 e))))

-- an assignment is sound exactly when every setting that agrees with it passes
module _ (p : ℕ → Bool) (n : ℕ) (a : Assignment) where
  pub sound-at : sound_over p n a ≡ true → (s : ℕ) → s < 2 ^ n → agrees n a s ≡ true → p s ≡ true
  unfolding sound_over
  sound-at h s l = implies-use (agrees n a s) (p s) (all-below (λ s. not (agrees n a s) || p s) (2 ^ n) s h l)

  pub sound-from : ((s : ℕ) → s < 2 ^ n → agrees n a s ≡ true → p s ≡ true) → sound_over p n a ≡ true
  unfolding sound_over
  sound-from h = below_all (λ s. not (agrees n a s) || p s) (2 ^ n) (λ s l. implies-from (agrees n a s) (p s) (h s l))

-- an input at 1 is a fixed one
module _ (n f o : ℕ) where
  pub within-at : is_within n f o ≡ true → (i : ℕ) → i < n → bit o i ≤ bit f i
  unfolding is_within
  within-at h i l = leb-true (bit o i) (bit f i) (all-below (λ i. leb (bit o i) (bit f i)) n i h l)

  pub within-from : ((i : ℕ) → i < n → bit o i ≤ bit f i) → is_within n f o ≡ true
  unfolding is_within
  within-from h = below_all (λ i. leb (bit o i) (bit f i)) n (λ i l. le-leb (bit o i) (bit f i) (h i l))

-- without a fixed input i: its bits are 0 in both masks, the others are kept
module _ (n : ℕ) (a : Assignment) (i : ℕ) (ok : Consistent n a) (below : i < n) (fixed-here : bit a.fixed i ≡ 1)
  where
    pub without-fixed : bit (without a i).fixed i ≡ 0
    unfolding without
    without-fixed = rw (one-mul (2 ^ i)) at (bit-dropped a.fixed n i 1 ok.fixed-lt below fixed-here)

    pub without-fixed-other : (j : ℕ) → j < n → (j ≡ i → ⊥) → bit (without a i).fixed j ≡ bit a.fixed j
    unfolding without
    without-fixed-other j l ne =
        rw (one-mul (2 ^ i)) at (bit_kept a.fixed n i 1 ok.fixed-lt below fixed-here j l ne)

    pub without-ones : bit (without a i).ones i ≡ 0
    unfolding without
    without-ones = bit-dropped a.ones n i (bit a.ones i) ok.ones_lt below refl

    pub without-ones-other : (j : ℕ) → j < n → (j ≡ i → ⊥) → bit (without a i).ones j ≡ bit a.ones j
    unfolding without
    without-ones-other = bit_kept a.ones n i (bit a.ones i) ok.ones_lt below refl

    -- the first mask is less
    pub without-less : (without a i).fixed < a.fixed
    unfolding without
    without-less =
        let h : 2 ^ i ≤ a.fixed = rw (one-mul (2 ^ i)) at (bit_le a.fixed n i 1 ok.fixed-lt below fixed-here) in
        let z : 0 < 2 ^ i = pow_pos i in
        omega arith

    pub without-legal : Consistent n (without a i)
    unfolding without
    without-legal = record {
      fixed-lt = let h : a.fixed < 2 ^ n = ok.fixed-lt in omega arith;
      ones_lt = let h : a.ones < 2 ^ n = ok.ones_lt in omega arith;
      inside = within-from n (without a i).fixed (without a i).ones (λ j l.
          ⊎_elim (λ (e : j ≡ i). rw (e, without-ones, without-fixed) (omega arith))
          (λ (ne : j ≡ i → ⊥). rw (without-ones-other j l ne, without-fixed-other j l ne)
          (within-at n a.fixed a.ones ok.inside j l)) (eq-or-ne j i));
    }

    -- what agrees with it agreed before
    pub without-agrees : (s : ℕ) → agrees n a s ≡ true → agrees n (without a i) s ≡ true
    without-agrees s h = agrees_from n (without a i) s (λ j l e. ⊎_elim
        (λ (q : j ≡ i). let z : bit (without a i).fixed i ≡ 1 = rw q at e in let y : bit (without a i).fixed i
        ≡ 0 = without-fixed in absurd (omega arith))
        (λ (ne : j ≡ i → ⊥). agrees_at n a s h j l (sym (without-fixed-other j l ne) ∙ e)
        ∙ sym (without-ones-other j l ne)) (eq-or-ne j i))

-- the bits of two masks' common part, and the test that one mask is within another
and-bit : (a b i : ℕ) → bit (bit_and a b) i ≡ min (bit a i) (bit b i)
unfolding bit
and-bit a b i = rw (and_shr a b i, and_step (a / 2 ^ i) (b / 2 ^ i)) (omega arith)

pub within-and : (n f o : ℕ) → bit_and o f ≡ o → is_within n f o ≡ true
within-and n f o e =
    within-from n f o (λ i l. let h : bit o i ≡ min (bit o i) (bit f i) = ap (λ (x : ℕ). bit x i) (sym e)
    ∙ and-bit o f i in omega arith)

pub and-within : (n f o : ℕ) → o < 2 ^ n → is_within n f o ≡ true → bit_and o f ≡ o
and-within n f o l h =
    let le : bit_and o f ≤ o = and_le_l o f in
    bits-eq n (bit_and o f) o (omega arith) l
    (λ i m. and-bit o f i ∙ (let w : bit o i ≤ bit f i = within-at n f o h i m in omega arith))
