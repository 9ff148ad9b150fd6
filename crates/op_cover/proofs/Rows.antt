-- The assignments with one first mask, in the order of their second masks: their numbers, and whether they are left in
-- the table. Cited by the proofs of `row_base` and `is_left`, and of the loops. Assumes nothing.
use mathlib.Core.Path.{◌≡◌}
use mathlib.Core.List.{List}
use Prim.Native.Nat.{ℕ, ◌+◌, ◌*◌, ◌^◌, ◌≤◌, ◌<◌}
use native.Mathlib.Nat.{add-mul, one-mul}
use native.Mathlib.Omega.{arith}
use lib.Arith.{digits_lt, digits_div, digits_mod}
use lib.Dec.{eqb}
use lib.ListN.{get_or}
use Rattle.netlist.specs.Limits.{max_inputs}
use Rattle.theory_cover.specs.Over.{masks}
use Rattle.theory_cover.specs.Tables.{ternary_number, weight_of}
use Rattle.theory_cover.specs.Entries.{mask_pair_at, within_at, PairBelow, sound_at, entry_by, Row, EntriesReached}
use Rattle.theory_cover.proofs.Agree.{within-at}
use Rattle.op_cover.proofs.Bounds.{three-fits}
use Rattle.theory_cover.proofs.Covered.{bit-zero}
use Rattle.theory_cover.proofs.Numbers.{number_lt, number-weights}
use Rattle.op_cover.proofs.Weights.{weight-none}

-- `row_base`: the weight of a mask is less than half of 3^n
pub row_fits : (n fixed : ℕ) → 2 * weight_of n fixed + 1 ≤ 3 ^ n
row_fits n fixed =
    let z : weight_of n 0 ≡ 0 = weight-none n in
    let s : ternary_number n (masks fixed 0) + 2 * weight_of n fixed + 1 ≡ 3 ^ n + weight_of n 0 =
    number-weights n (masks fixed 0) (λ i m. rw (bit-zero i) (omega arith)) in
    omega arith

-- `is_left`, at the pair `fixed`, `ones`
module _ {marks weights : List ℕ} {n base fixed ones : ℕ} (w : Row marks weights n base fixed) (m : ones < 2 ^ n)
    (p : PairBelow n (fixed * 2 ^ n + ones)) where
  pair_is : mask_pair_at n (fixed * 2 ^ n + ones) ≡ masks fixed ones
  unfolding mask_pair_at
  pair_is = rw (digits_div fixed m, digits_mod fixed m)

  pub number_is : base + get_or weights ones 0 ≡ ternary_number n (mask_pair_at n (fixed * 2 ^ n + ones))
  unfolding within_at
  number_is =
      let i = rw pair_is at p.within in
      let s : ternary_number n (masks fixed ones) + 2 * weight_of n fixed + 1 ≡ 3 ^ n + weight_of n ones =
      number-weights n (masks fixed ones) (within-at n fixed ones i) in
      rw (pair_is, w.weighed.right ones m) (omega (arith, w.base-is))

  pub number-below : (base + get_or weights ones 0 < 3 ^ n) × (3 ^ n ≤ 3 ^ max_inputs)
  number-below = (
    rw number_is (number_lt n (mask_pair_at n (fixed * 2 ^ n + ones))),
    three-fits {i = n} {n = n} (omega arith)
        w.weighed.few,
  )

  pub left_is : eqb (get_or marks (base + get_or weights ones 0) 0) 1 ≡ entry_by marks n (fixed * 2 ^ n + ones)
  unfolding entry_by sound_at
  left_is = rw (p.within, number_is)

-- in a row each pair reached is an assignment
pub row_below : {marks : List ℕ} {n fixed ones count : ℕ} → EntriesReached marks n (fixed * 2 ^ n + ones) count
    → fixed < 2 ^ n → ones < 2 ^ n
    → PairBelow n (fixed * 2 ^ n + ones)
row_below r l m = let b : _ = digits_lt l m in record { below = b; within = r.legal b }

pub row-end : (n fixed : ℕ) → fixed * 2 ^ n + 2 ^ n ≡ (fixed + 1) * 2 ^ n
row-end n fixed = rw (add-mul fixed 1 (2 ^ n), one-mul (2 ^ n))
