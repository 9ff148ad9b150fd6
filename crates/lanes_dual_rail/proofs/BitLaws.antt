-- The bits of a word, one by one.
--   bit-low, bit-zero, bit_high     0 or 1; of 0; past the word's end
--   bit-and, bit-or, bit-xor        of `&`, `|` and `^`
--   bit-full                        of a word whose lowest bits are set
--   bit-base-low, bit-base-high     of a batch's setting
--   le-by-bits, eq-by-bits          two words compared bit by bit
-- Assumes nothing.
use mathlib.Core.Path.{◌≡◌, sym, ap, ◌∙◌}
use Prim.Native.Nat.{ℕ, zero, suc, ◌+◌, ◌-◌, ◌/◌, ◌%◌, ◌^◌, ◌≤◌, ◌<◌, min, max, zero-le}
use native.Mathlib.Nat.{lt_of_le_of_lt, min-le_left, max-le, div-eq_of_lt, div-one, zero-div, le_antisymm, pow-suc}
use native.Mathlib.Numerals.{add-one, one-add}
use native.Mathlib.Omega.{arith}
use lib.Arith.{digits_mod, bin_ind}
use lib.Pow.{pow_mono, pow_pos, shr-shr, field, mod-mod-pow, ones_split, high, ones_lt}
use lib.Bits.{bit_and, bit_or, bit_xor, differ, and_shr, or_shr, xor_shr, and_step, or_step, xor_step}
use Rattle.netlist.specs.Assignments.{bit}
use Rattle.lanes_dual_rail.specs.Pairs.{full}

-- a bit is 0 or 1
pub bit-low : (a s : ℕ) → bit a s < 2
unfolding bit
bit-low a s = omega arith

pub bit-zero : (s : ℕ) → bit 0 s ≡ 0
unfolding bit
bit-zero s = rw (zero-div (2 ^ s))

-- past the word's end
pub bit_high : (a k s : ℕ) → a < 2 ^ k → k ≤ s → bit a s ≡ 0
unfolding bit
bit_high a k s h l =
    let p : 2 ^ k ≤ 2 ^ s = pow_mono {i = k} {j = s} l in
    let z : a / 2 ^ s ≡ 0 = div-eq_of_lt (omega arith) in
    rw z

-- ---- the operations

pub bit-and : (a b s : ℕ) → bit (bit_and a b) s ≡ min (bit a s) (bit b s)
unfolding bit
bit-and a b s =
    ap (λ (n : ℕ). n % 2) (and_shr a b s ∙ and_step (a / 2 ^ s) (b / 2 ^ s))
    ∙ digits_mod (bit_and (a / 2 ^ s / 2) (b / 2 ^ s / 2))
    (lt_of_le_of_lt (min-le_left (a / 2 ^ s % 2) (b / 2 ^ s % 2)) (omega arith))

pub bit-or : (a b s : ℕ) → bit (bit_or a b) s ≡ max (bit a s) (bit b s)
unfolding bit
bit-or a b s =
    let most : max (a / 2 ^ s % 2) (b / 2 ^ s % 2) ≤ 1 = max-le (omega arith) (omega arith) in
    ap (λ (n : ℕ). n % 2) (or_shr a b s ∙ or_step (a / 2 ^ s) (b / 2 ^ s))
    ∙ digits_mod (bit_or (a / 2 ^ s / 2) (b / 2 ^ s / 2)) (omega arith)

differ-low : (x y : ℕ) → x < 2 → y < 2 → differ x y < 2
differ-low zero y h l = l
differ-low (suc x) zero h l = h
differ-low (suc zero) (suc y) h l = omega arith
differ-low (suc (suc x)) (suc y) h l = absurd (omega arith)

pub bit-xor : (a b s : ℕ) → bit (bit_xor a b) s ≡ differ (bit a s) (bit b s)
unfolding bit
bit-xor a b s =
    ap (λ (n : ℕ). n % 2) (xor_shr a b s ∙ xor_step (a / 2 ^ s) (b / 2 ^ s))
    ∙ digits_mod (bit_xor (a / 2 ^ s / 2) (b / 2 ^ s / 2))
    (differ-low (a / 2 ^ s % 2) (b / 2 ^ s % 2) (omega arith) (omega arith))

-- ---- the lowest bits set

full_at : (k s : ℕ) → bit (full (suc k + s)) s ≡ 1
unfolding bit full
full_at k s =
    let p : 0 < 2 ^ k = pow_pos k in
    let odd : (2 ^ suc k - 1) % 2 ≡ 1 = rw (pow-suc 2 k) (omega arith) in
    rw (ones_split (suc k) s, high (2 ^ suc k - 1) s (ones_lt s)) odd

pub bit-full : (k s : ℕ) → s < k → bit (full k) s ≡ 1
bit-full k s l =
    let e : suc (k - suc s) + s ≡ k = omega arith in
    rw e at (full_at (k - suc s) s)

-- ---- the settings of a batch, whose first is a multiple of 64

low_bit : (d i n : ℕ) → n % 2 ^ (suc d + i) / 2 ^ i % 2 ≡ n / 2 ^ i % 2
low_bit d i n = ap (λ (m : ℕ). m % 2) (field n (suc d) i) ∙ (rw (add-one d) at (mod-mod-pow (n / 2 ^ i) d 1))

pub bit-base-low : (base s i : ℕ) → base % 64 ≡ 0 → s < 64 → i < 6 → bit (base + s) i ≡ bit s i
unfolding bit
bit-base-low base s i e l h =
    let d : suc (6 - suc i) + i ≡ 6 = omega arith in
    let r : (base + s) % 64 / 2 ^ i % 2 ≡ (base + s) / 2 ^ i % 2 = rw d at (low_bit (6 - suc i) i (base + s)) in
    let f : (base + s) % 64 ≡ s = omega arith in
    sym r ∙ rw f

pub bit-base-high : (base s i : ℕ) → base % 64 ≡ 0 → s < 64 → 6 ≤ i → bit (base + s) i ≡ bit base i
unfolding bit
bit-base-high base s i e l h =
    let d : 6 + (i - 6) ≡ i = omega arith in
    let f : (base + s) / 64 ≡ base / 64 = omega arith in
    let p : (base + s) / 64 / 2 ^ (i - 6) ≡ (base + s) / 2 ^ i = rw d at (shr-shr (base + s) 6 (i - 6)) in
    let q : base / 64 / 2 ^ (i - 6) ≡ base / 2 ^ i = rw d at (shr-shr base 6 (i - 6)) in
    ap (λ (m : ℕ). m % 2) (sym p ∙ ap (λ (m : ℕ). m / 2 ^ (i - 6)) f ∙ q)

-- ---- words compared bit by bit

bit-first : (a : ℕ) → bit a 0 ≡ a % 2
unfolding bit
bit-first a = rw (div-one a)

bit-next : (a s : ℕ) → bit (a / 2) s ≡ bit a (suc s)
unfolding bit
bit-next a s = ap (λ (m : ℕ). m % 2) (rw (one-add s) at (shr-shr a 1 s))

pub le-by-bits : (a b : ℕ) → ((s : ℕ) → bit a s ≤ bit b s) → a ≤ b
le-by-bits =
    bin_ind (λ (a : ℕ). (b : ℕ) → ((s : ℕ) → bit a s ≤ bit b s) → a ≤ b) (λ b h. zero-le)
    (λ a more b h.
    let rest : a / 2 ≤ b / 2 = more (b / 2) (λ s. rw (bit-next a s, bit-next b s) (h (suc s))) in
    let first : a % 2 ≤ b % 2 = rw (bit-first a, bit-first b) at (h 0) in
    omega arith)

pub eq-by-bits : (a b : ℕ) → ((s : ℕ) → bit a s ≡ bit b s) → a ≡ b
eq-by-bits a b h =
    le_antisymm (le-by-bits a b (λ s. let e = h s in omega arith)) (le-by-bits b a (λ s. let e = h s in omega arith))
