-- The walk over the pairs of masks that are assignments (`next_ones`). Cited by its proof, and by the loops that walk.
-- Assumes nothing.
--   row_in, row_out         which pairs of one first mask are assignments
--   next-in-row, next_row   the next pair has the same first mask, or the next one
use mathlib.Core.Path.{◌≡◌, sym, ap, ◌∙◌}
use mathlib.Core.Bool.{true, false}
use Prim.Native.Nat.{ℕ, suc, ◌+◌, ◌-◌, ◌*◌, ◌^◌, ◌≤◌, ◌<◌}
use native.Mathlib.Nat.{zero-mul, suc-mul}
use native.Mathlib.Omega.{arith}
use lib.Arith.{digits_lt, digits_div, digits_mod}
use lib.Bits.{bit_and, and_zero_l, and_le_r}
use lib.Pow.{pow_pos}
use Rattle.prelude.proofs.Tests.{not-true-false}
use Rattle.netlist.specs.Assignments.{is_within}
use Rattle.theory_cover.specs.Entries.{mask_pair_at, within_at, PairBelow, NextPair}
use Rattle.theory_cover.proofs.Agree.{within-and, and-within}
use Rattle.op_cover.proofs.Subsets.{Subset, NextSubset, next-subset}

-- the pairs with first mask f
module _ (n f j : ℕ) (l : j < 2 ^ n) where
  row : within_at n (f * 2 ^ n + j) ≡ is_within n f j
  unfolding within_at mask_pair_at
  row = rw (digits_div f l, digits_mod f l)

  row_in : Subset f j → within_at n (f * 2 ^ n + j) ≡ true
  row_in s = row ∙ within-and n f j s

  row_out : (Subset f j → ⊥) → within_at n (f * 2 ^ n + j) ≡ false
  row_out ne = row ∙ not-true-false (is_within n f j) (λ h. ne (and-within n f j l h))

-- the first pair
pub first-pair : (n : ℕ) → within_at n 0 ≡ true
first-pair n =
    ap (within_at n) (let z : 0 * 2 ^ n ≡ 0 = zero-mul (2 ^ n) in omega arith) ∙ row_in n 0 0 (pow_pos n) (and_zero_l 0)

-- after the pair with masks f and o
module _ {n f o count : ℕ} (fixed-lt : f < 2 ^ n) (ones_lt : o < 2 ^ n) (p : PairBelow n (f * 2 ^ n + o))
    (c : count ≡ 2 ^ n) where
  inside : Subset f o
  inside = and-within n f o ones_lt (sym (row n f o ones_lt) ∙ p.within)

  row_ends : f * 2 ^ n + 2 ^ n ≤ 2 ^ n * 2 ^ n
  row_ends =
      let h : f * 2 ^ n + (2 ^ n - 1) < 2 ^ n * 2 ^ n = digits_lt fixed-lt (omega (arith, pow_pos n)) in
      omega (arith, pow_pos n)

  -- a later pair of the row that is an assignment
  later : (x : ℕ) → f * 2 ^ n + o < x → x < f * 2 ^ n + 2 ^ n → (Subset f (x - f * 2 ^ n) → ⊥) → within_at n x ≡ false
  later x a b ne =
      let e : x ≡ f * 2 ^ n + (x - f * 2 ^ n) = omega arith in
      ap (within_at n) e ∙ row_out n f (x - f * 2 ^ n) (omega arith) ne

  -- all fixed inputs are at 1
  pub next_row : o ≡ f → NextPair n (f * 2 ^ n + o) (f * 2 ^ n + count)
  next_row e =
      let h : suc f * 2 ^ n ≡ f * 2 ^ n + 2 ^ n = suc-mul f (2 ^ n) in
      rw c (record {
        above = omega arith;
        least = λ x a b.
            let h : bit_and (x - f * 2 ^ n) f ≤ f = and_le_r (x - f * 2 ^ n) f in later x a b (λ s. omega arith);
        end = row_ends;
        legal = λ l. ap (within_at n) (omega arith) ∙ row_in n (suc f) 0 (pow_pos n) (and_zero_l (suc f));
      })

  -- some are at 0
  pub next-in-row : (o ≡ f → ⊥) → NextPair n (f * 2 ^ n + o) (f * 2 ^ n + bit_and (o + count - f) f)
  next-in-row ne =
      let s : bit_and o f ≤ f = and_le_r o f in
      let i : Subset f o = inside in
      let x : NextSubset f o (bit_and (o + 2 ^ n - f) f) = next-subset n f o fixed-lt i (omega arith) in
      let d : bit_and (o + 2 ^ n - f) f ≤ f = and_le_r (o + 2 ^ n - f) f in
      rw c (record {
        above = omega (arith, x.above);
        least = λ y a b.
            later y a (omega arith) (λ t. omega (arith, x.least (y - f * 2 ^ n) (omega arith) t));
        end = omega (arith, row_ends);
        legal = λ l. row_in n f (bit_and (o + 2 ^ n - f) f) (omega arith) x.inside;
      })
