-- The ternary weight of a mask from that of its half, and of the next mask. Cited by the laws of filling. Assumes
-- nothing.
use mathlib.Core.Path.{◌≡◌, sym, ap, ◌∙◌}
use mathlib.Core.Logic.{⊎_elim}
use mathlib.Core.List.{List}
use Prim.Native.Nat.{ℕ, zero, suc, ◌+◌, ◌*◌, ◌/◌, ◌%◌, ◌^◌, ◌<◌}
use native.Mathlib.Nat.{pow-suc, mul_assoc, mul_comm, div-div-eq-div-mul, div-one, mul-one, zero-mul, one-mul}
use native.Mathlib.Nat.{div-eq_of_lt}
use native.Mathlib.Omega.{arith}
use lib.ListN.{length, get_or, set}
use lib.Seq.{get_or-set_same, get_or-set_other}
use Rattle.prelude.proofs.Tests.{eq-or-ne}
use Rattle.netlist.specs.Assignments.{bit}
use Rattle.theory_cover.specs.Digits.{numeral}
use Rattle.theory_cover.specs.Tables.{weight_of}

bit-half : (x m : ℕ) → bit x (suc m) ≡ bit (x / 2) m
unfolding bit
bit-half x m = rw (pow-suc 2 m, mul_comm (2 ^ m) 2, ← div-div-eq-div-mul x 2 (2 ^ m))

-- the lowest bit, and the others
pub weight-half : (m x : ℕ) → weight_of (suc m) x ≡ weight_of m (x / 2) * 3 + x % 2
unfolding weight_of numeral bit
weight-half zero x = rw (div-one x) (omega arith)
weight-half (suc m) x =
    let i : weight_of (suc m) x ≡ weight_of m (x / 2) * 3 + x % 2 = weight-half m x in
    let d : bit x (suc m) * 3 ^ suc m ≡ bit (x / 2) m * 3 ^ m * 3 =
    rw (bit-half x m, pow-suc 3 m) (sym (mul_assoc (bit (x / 2) m) (3 ^ m) 3)) in
    omega arith

-- a 0 below the lowest bit, i times
pub weight-shift : (i m x : ℕ) → weight_of (i + m) (x * 2 ^ i) ≡ weight_of m x * 3 ^ i
weight-shift zero m x = rw (mul-one x, mul-one (weight_of m x)) (ap (λ (k : ℕ). weight_of k x) (omega arith))
weight-shift (suc i) m x =
    let e : x * 2 ^ suc i ≡ x * 2 ^ i * 2 = rw (pow-suc 2 i) (sym (mul_assoc x (2 ^ i) 2)) in
    let h : x * 2 ^ i * 2 / 2 ≡ x * 2 ^ i = omega arith in
    let z : x * 2 ^ i * 2 % 2 ≡ 0 = omega arith in
    ap (λ (k : ℕ). weight_of k (x * 2 ^ suc i)) (omega arith) ∙ weight-half (i + m) (x * 2 ^ suc i)
    ∙ rw (e, h, z, weight-shift i m x, pow-suc 3 i) (omega (arith, mul_assoc (weight_of m x) (3 ^ i) 3))

-- the next mask of an even one
pub weight-next : (m x : ℕ) → x % 2 ≡ 0 → weight_of (suc m) (x + 1) ≡ weight_of (suc m) x + 1
weight-next m x e =
    let a : (x + 1) / 2 ≡ x / 2 = omega arith in
    rw (weight-half m (x + 1), weight-half m x, a) (omega arith)

-- a mask of m bits has no further bit
pub weight-top : (m x : ℕ) → x < 2 ^ m → weight_of (suc m) x ≡ weight_of m x
unfolding weight_of numeral bit
weight-top m x l = rw (div-eq_of_lt l) (omega arith)

-- .. so the weight of a mask's half is that of the same table
pub weight-from-half : (n x : ℕ) → x < 2 ^ n → weight_of n x ≡ weight_of n (x / 2) * 3 + x % 2
unfolding weight_of numeral
weight-from-half zero x l = let m : x < 1 = l in let z : x ≡ 0 = omega arith in rw z
weight-from-half (suc n) x l =
    let e : 2 ^ suc n ≡ 2 ^ n * 2 = pow-suc 2 n in
    weight-half n x ∙ rw (weight-top n (x / 2) (omega arith))

-- the first mask, and the first with one more bit
pub weight-none : (m : ℕ) → weight_of m 0 ≡ 0
unfolding weight_of numeral
weight-none m =
    ap (λ (k : ℕ). weight_of k 0) (let z : m ≡ m + 0 = omega arith in z)
    ∙ ap (weight_of (m + 0)) (sym (zero-mul (2 ^ m))) ∙ weight-shift m 0 0 ∙ zero-mul (3 ^ m)

pub weight-power : (m : ℕ) → weight_of (m + 1) (2 ^ m) ≡ 3 ^ m
unfolding weight_of numeral bit
weight-power m = ap (weight_of (m + 1)) (sym (one-mul (2 ^ m))) ∙ weight-shift m 1 1 ∙ one-mul (3 ^ m)

-- `fill_weights`: the first mask, and one mask more
pub weights-first : (weights : List ℕ) (n m : ℕ) → 0 < length weights → m < 1
    → get_or (set weights 0 0) m 0 ≡ weight_of n m
weights-first weights n m l b = let z : m ≡ 0 = omega arith in rw (z, weight-none n) (get_or-set_same weights 0 0 0 l)

pub weights-next : (weights : List ℕ) (n mask : ℕ) → ((m : ℕ) → m < mask → get_or weights m 0 ≡ weight_of n m) → 0 < mask
    → mask < 2 ^ n → mask < length weights
    → (m : ℕ) → m < mask + 1 → get_or (set weights mask (3 * get_or weights (mask / 2) 0 + mask % 2)) m 0 ≡ weight_of n m
weights-next weights n mask right pos small there m l =
    ⊎_elim
    (λ (e : m ≡ mask).
    rw (
      e,
      get_or-set_same weights mask (3 * get_or weights (mask / 2) 0 + mask % 2) 0 there,
      right (mask / 2)
          (omega arith),
    )
    (omega (arith, weight-from-half n mask small)))
    (λ (ne : m ≡ mask → ⊥). get_or-set_other weights mask m (3 * get_or weights (mask / 2) 0 + mask % 2) 0 ne ∙ right m
    (omega arith))
    (eq-or-ne m mask)
