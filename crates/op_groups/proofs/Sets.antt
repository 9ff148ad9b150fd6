-- A set of gates as bits: one is added, one is taken out, and the lowest is found. Cited by `add`, `remove` and
-- `lowest`. Assumes nothing.
use mathlib.Core.Path.{◌≡◌, refl, sym, ap, ◌∙◌}
use mathlib.Core.Logic.{⊎_elim}
use mathlib.Core.Bool.{Bool, true, false, cond, not, ◌&&◌, ◌||◌, or-false, and-true}
use mathlib.Core.List.{List}
use Prim.Native.Nat.{ℕ, zero, suc, ◌+◌, ◌-◌, ◌*◌, ◌/◌, ◌%◌, ◌^◌, ◌≤◌, ◌<◌, max}
use native.Mathlib.Nat.{one-mul, zero-add, pow-suc}
use native.Mathlib.Omega.{arith}
use lib.Bits.{bit_or, bit_xor, differ}
use lib.Pow.{pow-add, pow-lt, shl-shr, shl_exact}
use lib.ListN.{length, get_or, set, replicate}
use lib.Seq.{get_or-set_same, get_or-set_other}
use lib.Dec.{eqb}
use borrow.Author.Tests.{eqb-true, eq-eqb, ne_eqb}
use Rattle.prelude.specs.Lists.{least}
use Rattle.prelude.proofs.Tests.{eq-or-ne, lt-or-le, not-both}
use Rattle.prelude.proofs.Least.{least-below, least_at, least-is}
use Rattle.netlist.specs.Assignments.{bit}
use Rattle.lanes_dual_rail.proofs.BitLaws.{bit-low, bit-zero, bit_high, bit-or, bit-xor}
use Rattle.lanes_dual_rail.specs.Words.{has_lane}
use Rattle.lanes_dual_rail.proofs.WordLaws.{tells-some}
use Rattle.op_groups.specs.Ready.{in_set, Added, Removed}

-- ---- one bit

bit-same : (j : ℕ) → bit (1 * 2 ^ j) j ≡ 1
unfolding bit
bit-same j = rw (shl-shr 1 j) refl

bit-other : (j i : ℕ) → (i ≡ j → ⊥) → bit (1 * 2 ^ j) i ≡ 0
unfolding bit
bit-other j i ne = ⊎_elim below above (lt-or-le i j)
  where
    below : i < j → 1 * 2 ^ j / 2 ^ i % 2 ≡ 0
    below l =
        let e : j ≡ suc (j - i - 1) + i = omega arith in
        let f : 1 * 2 ^ j ≡ 2 ^ suc (j - i - 1) * 2 ^ i =
        one-mul (2 ^ j) ∙ ap (λ (k : ℕ). 2 ^ k) e ∙ pow-add 2 (suc (j - i - 1)) i in
        rw (f, shl-shr (2 ^ suc (j - i - 1)) i) (omega (arith, pow-suc 2 (j - i - 1)))

    above : j ≤ i → 1 * 2 ^ j / 2 ^ i % 2 ≡ 0
    above l =
        bit_high (1 * 2 ^ j) (suc j) i (rw (one-mul (2 ^ j)) (pow-lt {i = j} {j = suc j} (omega arith)))
        (omega (arith, ne))

bit-single : (j i : ℕ) → bit (1 * 2 ^ j) i ≡ cond (eqb i j) 1 0
bit-single j i =
    ⊎_elim (λ e. rw (eq-eqb i j e) (rw e (bit-same j))) (λ ne. rw (ne_eqb i j ne) (bit-other j i ne)) (eq-or-ne i j)

-- the machine's shift
shifted : (j : ℕ) → j < 64 → 1 * 2 ^ j % 18446744073709551616 ≡ 1 * 2 ^ j
shifted j l = shl_exact {a = 1} 1 j 64 (omega arith) (omega arith)

or-lane : (x : ℕ) (t : Bool) → x < 2 → eqb (max x (cond t 1 0)) 1 ≡ eqb x 1 || t
or-lane zero true l = refl
or-lane zero false l = refl
or-lane (suc zero) true l = refl
or-lane (suc zero) false l = refl
or-lane (suc (suc x)) t l = absurd (omega arith)

-- a bit that is set turns
xor-lane : (x : ℕ) (t : Bool) → x < 2 → (t ≡ true → x ≡ 1) → eqb (differ x (cond t 1 0)) 1 ≡ eqb x 1 && not t
xor-lane zero true l h = absurd (omega (arith, h refl))
xor-lane zero false l h = refl
xor-lane (suc zero) true l h = refl
xor-lane (suc zero) false l h = refl
xor-lane (suc (suc x)) t l h = absurd (omega arith)

module _ (w j s : ℕ) (l : j < 64) where
  with-bit : has_lane (bit_or w (1 * 2 ^ j % 18446744073709551616)) s ≡ has_lane w s || eqb s j
  unfolding has_lane
  with-bit = rw (shifted j l, bit-or w (1 * 2 ^ j) s, bit-single j s) (or-lane (bit w s) (eqb s j) (bit-low w s))

  without-bit : has_lane w j ≡ true → has_lane (bit_xor w (1 * 2 ^ j % 18446744073709551616)) s
      ≡ has_lane w s && not (eqb s j)
  unfolding has_lane
  without-bit h =
      rw (shifted j l, bit-xor w (1 * 2 ^ j) s, bit-single j s)
      (xor-lane (bit w s) (eqb s j) (bit-low w s) (λ e. rw (eqb-true s j e) (eqb-true (bit w j) 1 h)))

-- ---- one gate

module _ (l : ℕ) (ready : List ℕ) (fits : l / 64 < length ready) where
  same_word : (i : ℕ) → i / 64 ≡ l / 64 → eqb (i % 64) (l % 64) ≡ eqb i l
  same_word i e =
      ⊎_elim (λ q. rw q (eq-eqb (l % 64) (l % 64) refl ∙ sym (eq-eqb l l refl)))
      (λ ne. ne_eqb (i % 64) (l % 64) (λ q. ne (omega arith)) ∙ sym (ne_eqb i l ne)) (eq-or-ne i l)

  pub set-added : Added l ready (set ready (l / 64)
      (bit_or (get_or ready (l / 64) 0) (1 * 2 ^ (l % 64) % 18446744073709551616)))
  unfolding in_set
  set-added i = ⊎_elim same apart (eq-or-ne (i / 64) (l / 64))
    where
      v : ℕ
      v = bit_or (get_or ready (l / 64) 0) (1 * 2 ^ (l % 64) % 18446744073709551616)

      same : i / 64 ≡ l / 64 → has_lane (get_or (set ready (l / 64) v) (i / 64) 0) (i % 64)
          ≡ has_lane (get_or ready (i / 64) 0) (i % 64) || eqb i l
      same e =
          rw (e, get_or-set_same ready (l / 64) v 0 fits, ← same_word i e)
          (with-bit (get_or ready (l / 64) 0) (l % 64) (i % 64) (omega arith))

      apart : (i / 64 ≡ l / 64 → ⊥) → has_lane (get_or (set ready (l / 64) v) (i / 64) 0) (i % 64)
          ≡ has_lane (get_or ready (i / 64) 0) (i % 64) || eqb i l
      apart ne =
          rw (get_or-set_other ready (l / 64) (i / 64) v 0 ne, ne_eqb i l (λ q. ne (rw q refl)))
          (sym (or-false (has_lane (get_or ready (i / 64) 0) (i % 64))))

  pub set-removed : in_set ready l ≡ true
      → Removed l ready (set ready (l / 64) (bit_xor (get_or ready (l / 64) 0) (1 * 2 ^ (l % 64) % 18446744073709551616)))
  unfolding in_set
  set-removed h i = ⊎_elim same apart (eq-or-ne (i / 64) (l / 64))
    where
      v : ℕ
      v = bit_xor (get_or ready (l / 64) 0) (1 * 2 ^ (l % 64) % 18446744073709551616)

      same : i / 64 ≡ l / 64 → has_lane (get_or (set ready (l / 64) v) (i / 64) 0) (i % 64)
          ≡ has_lane (get_or ready (i / 64) 0) (i % 64) && not (eqb i l)
      same e =
          rw (e, get_or-set_same ready (l / 64) v 0 fits, ← same_word i e)
          (without-bit (get_or ready (l / 64) 0) (l % 64) (i % 64) (omega arith) h)

      apart : (i / 64 ≡ l / 64 → ⊥) → has_lane (get_or (set ready (l / 64) v) (i / 64) 0) (i % 64)
          ≡ has_lane (get_or ready (i / 64) 0) (i % 64) && not (eqb i l)
      apart ne =
          rw (get_or-set_other ready (l / 64) (i / 64) v 0 ne, ne_eqb i l (λ q. ne (rw q refl)))
          (sym (and-true (has_lane (get_or ready (i / 64) 0) (i % 64))))

-- ---- no gate

pub zeros : (n i : ℕ) → get_or (replicate {A = ℕ} n 0) i 0 ≡ 0
zeros zero i = refl
zeros (suc n) zero = refl
zeros (suc n) (suc i) = zeros n i

pub set-empty : (n l : ℕ) → in_set (replicate n 0) l ≡ false
unfolding in_set has_lane
set-empty n l = rw (zeros n (l / 64), bit-zero (l % 64)) refl

-- ---- the lowest

-- no gate of the first words is in the set
abbrev pub NoneBelow : List ℕ → ℕ → Type 0
NoneBelow ready at = (i : ℕ) → i < 64 * at → in_set ready i ≡ false

module _ (ready : List ℕ) (at : ℕ) (none : NoneBelow ready at) where
  -- a gate from this word on stands in it, below the next
  in-word : (i : ℕ) → 64 * at ≤ i → i < 64 * at + 64 → in_set ready i ≡ has_lane (get_or ready at 0) (i - 64 * at)
  unfolding in_set
  in-word i a b =
      let e : i / 64 ≡ at = omega arith in
      let f : i % 64 ≡ i - 64 * at = omega arith in
      rw (e, f) refl

  pub empty-word : get_or ready at 0 ≡ 0 → NoneBelow ready (at + 1)
  unfolding has_lane
  empty-word z i l =
      ⊎_elim (none i) (λ a. in-word i a (omega arith) ∙ rw (z, bit-zero (i - 64 * at)) refl) (lt-or-le i (64 * at))

  pub word-lowest : get_or ready at 0 < 18446744073709551616 → (get_or ready at 0 ≡ 0 → ⊥) → at < length ready
      → 64 * at + least (has_lane (get_or ready at 0)) 64 ≡ least (in_set ready) (64 * length ready)
  word-lowest fits ne l =
      sym (least-is (in_set ready) (64 * length ready) (64 * at + r) (omega (arith, within)) below at-it)
    where
      r : ℕ
      r = least (has_lane (get_or ready at 0)) 64

      within : r < 64
      within =
          let s : (s : ℕ) × (s < 64) × (has_lane (get_or ready at 0) (0 + s) ≡ true) =
          tells-some {lanes = 64} {base = 0} {p = has_lane (get_or ready at 0)} {w = get_or ready at 0}
          (record { within = fits; each = λ s l. rw zero-add refl }) ne in
          ⊎_elim (λ h. h) (λ h. not-both s.2
          (rw (zero-add s.0) (least-below (has_lane (get_or ready at 0)) 64 s.0 (omega (arith, s.1)))))
          (lt-or-le r 64)

      below : (i : ℕ) → i < 64 * at + r → in_set ready i ≡ false
      below i h =
          ⊎_elim (none i) (λ a. in-word i a (omega (arith, within))
          ∙ least-below (has_lane (get_or ready at 0)) 64 (i - 64 * at) (omega arith))
          (lt-or-le i (64 * at))

      at-it : 64 * at + r < 64 * length ready → in_set ready (64 * at + r) ≡ true
      at-it h =
          let e : 64 * at + r - 64 * at ≡ r = omega arith in
          in-word (64 * at + r) (omega arith) (omega (arith, within))
          ∙ rw e (least_at (has_lane (get_or ready at 0)) 64 within)

  pub none-lowest : at ≡ length ready → 64 * at ≡ least (in_set ready) (64 * length ready)
  none-lowest e =
      rw (← e) (sym (least-is (in_set ready) (64 * at) (64 * at) (omega arith) none (λ h. absurd (omega arith))))
