-- Masks by their bits. Cited for the never lines of a written block. Assumes nothing.
--   mask-of-bits: a number below 2^n is the mask of its n bits
--   mask-bit: bit i of a mask says whether value i passes the test
--   mask-some: a mask is not 0 where some value passes
--   bit_below: a bit is 0 or 1
use Prim.Native.Nat.{ℕ, zero, suc, ◌+◌, ◌*◌, ◌/◌, ◌%◌, ◌^◌, ◌<◌}
use mathlib.Core.Path.{◌≡◌, refl, ap, ◌∙◌}
use mathlib.Core.Bool.{Bool, true, false, cond}
use mathlib.Core.List.{List, [], ◌∷◌}
use native.Mathlib.Nat.{div-one, div-div-eq-div-mul, mod-lt, pow-suc, mul_comm}
use native.Mathlib.Omega.{arith}
use lib.ListN.{length, get_or}
use lib.Dec.{eqb}
use Rattle.netlist.specs.Values.{Value, undefined}
use Rattle.netlist.specs.Assignments.{bit, mask_of}

pub bit_below : (m i : ℕ) → bit m i < 2
unfolding bit
bit_below m i = mod-lt (m / 2 ^ i) (omega arith)

-- the lowest bit, and the others
bit-first : (m : ℕ) → bit m 0 ≡ m % 2
unfolding bit
bit-first m = rw (div-one m)

bit-rest : (m i : ℕ) → bit m (suc i) ≡ bit (m / 2) i
unfolding bit
bit-rest m i = rw (pow-suc 2 i, mul_comm (2 ^ i) 2, div-div-eq-div-mul m 2 (2 ^ i))

pub mask-of-bits : (test : Value → Bool) (vs : List Value) (m : ℕ) → m < 2 ^ length vs
    → ((i : ℕ) → i < length vs → test (get_or vs i undefined) ≡ eqb (bit m i) 1) → mask_of test vs ≡ m
unfolding mask_of
mask-of-bits test [] m l h = omega arith
mask-of-bits test (v ∷ vs) m l h =
    let e : 2 ^ suc (length vs) ≡ 2 ^ length vs * 2 = pow-suc 2 (length vs) in
    let rest = mask-of-bits test vs (m / 2) (omega arith)
    (λ i k. h (suc i) (omega arith) ∙ ap (λ x. eqb x 1) (bit-rest m i)) in
    rw rest (low (m % 2) (omega arith) refl (h 0 (omega arith) ∙ ap (λ x. eqb x 1) (bit-first m)))
  where
    low : (r : ℕ) → r < 2 → m % 2 ≡ r → test v ≡ eqb (m % 2) 1 → cond (test v) 1 0 + 2 * (m / 2) ≡ m
    low zero k e t = let f : test v ≡ false = t ∙ ap (λ x. eqb x 1) e in rw f (omega arith)
    low (suc zero) k e t = let f : test v ≡ true = t ∙ ap (λ x. eqb x 1) e in rw f (omega arith)
    low (suc (suc r)) k e t = absurd (omega arith)

pub mask-bit : (test : Value → Bool) (vs : List Value) (i : ℕ) → i < length vs
    → bit (mask_of test vs) i ≡ cond (test (get_or vs i undefined)) 1 0
unfolding mask_of
mask-bit test [] i l = absurd (omega arith)
mask-bit test (v ∷ vs) zero l = bit-first _ ∙ low (test v)
  where
    low : (t : Bool) → (cond t 1 0 + 2 * mask_of test vs) % 2 ≡ cond t 1 0
    low true = omega arith
    low false = omega arith
mask-bit test (v ∷ vs) (suc i) l = bit-rest _ i ∙ ap (λ m. bit m i) (high (test v)) ∙ mask-bit test vs i (omega arith)
  where
    high : (t : Bool) → (cond t 1 0 + 2 * mask_of test vs) / 2 ≡ mask_of test vs
    high true = omega arith
    high false = omega arith

pub mask-some : (test : Value → Bool) (vs : List Value) (i : ℕ) → i < length vs → test (get_or vs i undefined) ≡ true
    → 0 < mask_of test vs
unfolding mask_of
mask-some test [] i l e = absurd (omega arith)
mask-some test (v ∷ vs) zero l e = rw e (omega arith)
mask-some test (v ∷ vs) (suc i) l e = omega (arith, mask-some test vs i (omega arith) e)
