-- Choices bit by bit: at each lane in use a cell's word has the bit of the truth word that the operands' bits choose.
--   choice-within, choice-at     a choice of two words
--   two_at, four-at              of two and of four bits
--   cell-within, cell_at         of all sixteen
-- Assumes nothing.
use mathlib.Core.Path.{◌≡◌, refl, sym, ◌∙◌}
use mathlib.Core.List.{[], ◌∷◌}
use Prim.Native.Nat.{ℕ, zero, suc, ◌+◌, ◌*◌, ◌/◌, ◌%◌, ◌^◌, ◌<◌, min}
use native.Mathlib.Omega.{arith}
use lib.Pow.{shr-shr, pow_pos, ones_lt}
use lib.Bits.{bit_and, bit_xor, differ, and_lt, xor_lt}
use lib.ListN.{get_or}
use Rattle.netlist.specs.Assignments.{bit}
use Rattle.netlist.specs.Cells.{number_of_bits}
use Rattle.lanes_dual_rail.specs.Pairs.{full}
use Rattle.lanes_dual_rail.proofs.BitLaws.{bit-low, bit-zero, bit-and, bit-xor, bit-full}
use Rattle.op_compare_cells.specs.Choices.{choice_word, two_word, four_word, cell_word}

-- ---- a choice of two words

pub choice-within : (lanes low high by : ℕ) → low < 2 ^ lanes → high < 2 ^ lanes → by < 2 ^ lanes
    → choice_word low high by < 2 ^ lanes
unfolding choice_word
choice-within lanes low high by l h b =
    xor_lt lanes low (bit_and (bit_xor low high) by) l (and_lt lanes (bit_xor low high) by (xor_lt lanes low high l h) b)

-- bits of 0 and 1
chosen-low : (l h : ℕ) → l < 2 → h < 2 → differ l (min (differ l h) 0) ≡ l
chosen-low zero zero p q = refl
chosen-low zero (suc zero) p q = refl
chosen-low zero (suc (suc h)) p q = absurd (omega arith)
chosen-low (suc zero) zero p q = refl
chosen-low (suc zero) (suc zero) p q = refl
chosen-low (suc zero) (suc (suc h)) p q = absurd (omega arith)
chosen-low (suc (suc l)) h p q = absurd (omega arith)

chosen-high : (l h : ℕ) → l < 2 → h < 2 → differ l (min (differ l h) 1) ≡ h
chosen-high zero zero p q = refl
chosen-high zero (suc zero) p q = refl
chosen-high zero (suc (suc h)) p q = absurd (omega arith)
chosen-high (suc zero) zero p q = refl
chosen-high (suc zero) (suc zero) p q = refl
chosen-high (suc zero) (suc (suc h)) p q = absurd (omega arith)
chosen-high (suc (suc l)) h p q = absurd (omega arith)

choice-bit : (low high by s : ℕ)
    → bit (choice_word low high by) s ≡ differ (bit low s) (min (differ (bit low s) (bit high s)) (bit by s))
unfolding choice_word
choice-bit low high by s =
    rw (bit-xor low (bit_and (bit_xor low high) by) s, bit-and (bit_xor low high) by s, bit-xor low high s)

pub choice-low : (low high by s : ℕ) → bit by s ≡ 0 → bit (choice_word low high by) s ≡ bit low s
choice-low low high by s e =
    choice-bit low high by s ∙ rw e (chosen-low (bit low s) (bit high s) (bit-low low s) (bit-low high s))

pub choice-high : (low high by s : ℕ) → bit by s ≡ 1 → bit (choice_word low high by) s ≡ bit high s
choice-high low high by s e =
    choice-bit low high by s ∙ rw e (chosen-high (bit low s) (bit high s) (bit-low low s) (bit-low high s))

-- the bit of `by` leads to place `at`, or `step` further
choice-at : (truth at step low high by s : ℕ) → bit low s ≡ bit truth at → bit high s ≡ bit truth (at + step)
    → bit (choice_word low high by) s ≡ bit truth (at + step * bit by s)
choice-at truth at step low high by s l h = go (bit by s) refl (bit-low by s)
  where
    go : (b : ℕ) → bit by s ≡ b → b < 2 → bit (choice_word low high by) s ≡ bit truth (at + step * b)
    go zero e m = let z : at + step * 0 ≡ at = omega arith in choice-low low high by s e ∙ l ∙ rw z
    go (suc zero) e m = let z : at + step * 1 ≡ at + step = omega arith in choice-high low high by s e ∙ h ∙ rw z
    go (suc (suc b)) e m = absurd (omega arith)

-- ---- two bits of the truth word

two-bits : (truth at : ℕ) → (bit truth at ≡ truth / 2 ^ at % 4 % 2) × (bit truth (at + 1) ≡ truth / 2 ^ at % 4 / 2)
unfolding bit
two-bits truth at =
    let next : truth / 2 ^ at / 2 ≡ truth / 2 ^ (at + 1) = shr-shr truth at 1 in
    (omega arith, rw (← next) (omega arith))

module _ (lanes : ℕ) {used : ℕ} (in_use : used ≡ full lanes) where
  used-within : used < 2 ^ lanes
  unfolding full
  used-within = rw in_use (ones_lt lanes)

  module _ {a : ℕ} (a_in : a < 2 ^ lanes) (truth : ℕ) where
    two-within : (at : ℕ) → two_word used truth a at < 2 ^ lanes
    unfolding two_word
    two-within at = go (truth / 2 ^ at % 4)
      where
        go : (t : ℕ) → get_or (0 ∷ bit_xor used a ∷ a ∷ used ∷ []) t 0 < 2 ^ lanes
        go zero = pow_pos lanes
        go (suc zero) = xor_lt lanes used a used-within a_in
        go (suc (suc zero)) = a_in
        go (suc (suc (suc zero))) = used-within
        go (suc (suc (suc (suc t)))) = pow_pos lanes

    two_at : (at s : ℕ) → s < lanes → bit (two_word used truth a at) s ≡ bit truth (at + bit a s)
    unfolding two_word
    two_at at s l = go (bit a s) (truth / 2 ^ at % 4) refl refl (bit-low a s) (omega arith)
      where
        one : bit used s ≡ 1
        one = rw in_use (bit-full lanes s l)

        low : bit truth at ≡ truth / 2 ^ at % 4 % 2
        low = (two-bits truth at).0

        high : bit truth (at + 1) ≡ truth / 2 ^ at % 4 / 2
        high = (two-bits truth at).1

        first : (t : ℕ) → truth / 2 ^ at % 4 ≡ t → bit truth (at + 0) ≡ t % 2
        first t e = let z : at + 0 ≡ at = omega arith in rw (z, low, e)

        second : (t : ℕ) → truth / 2 ^ at % 4 ≡ t → bit truth (at + 1) ≡ t / 2
        second t e = rw (high, e)

        go : (b t : ℕ) → bit a s ≡ b → truth / 2 ^ at % 4 ≡ t → b < 2 → t < 4
            → bit (get_or (0 ∷ bit_xor used a ∷ a ∷ used ∷ []) t 0) s ≡ bit truth (at + b)
        go zero zero f e q p = bit-zero s ∙ sym (first 0 e)
        go zero (suc zero) f e q p = bit-xor used a s ∙ rw (one, f) (sym (first 1 e))
        go zero (suc (suc zero)) f e q p = f ∙ sym (first 2 e)
        go zero (suc (suc (suc zero))) f e q p = one ∙ sym (first 3 e)
        go zero (suc (suc (suc (suc t)))) f e q p = absurd (omega arith)
        go (suc zero) zero f e q p = bit-zero s ∙ sym (second 0 e)
        go (suc zero) (suc zero) f e q p = bit-xor used a s ∙ rw (one, f) (sym (second 1 e))
        go (suc zero) (suc (suc zero)) f e q p = f ∙ sym (second 2 e)
        go (suc zero) (suc (suc (suc zero))) f e q p = one ∙ sym (second 3 e)
        go (suc zero) (suc (suc (suc (suc t)))) f e q p = absurd (omega arith)
        go (suc (suc b)) t f e q p = absurd (omega arith)

    -- ---- four bits

    module _ {b : ℕ} (b_in : b < 2 ^ lanes) where
      four-within : (at : ℕ) → four_word used truth a b at < 2 ^ lanes
      unfolding four_word
      four-within at = choice-within lanes _ _ b (two-within at) (two-within (at + 2)) b_in

      four-at : (at s : ℕ) → s < lanes → bit (four_word used truth a b at) s ≡ bit truth (at + bit a s + 2 * bit b s)
      unfolding four_word
      four-at at s l =
          let z : at + 2 + bit a s ≡ at + bit a s + 2 = omega arith in
          choice-at truth (at + bit a s) 2 _ _ b s (two_at at s l) (two_at (at + 2) s l ∙ rw z)

      -- ---- all sixteen

      module _ {c d : ℕ} (c_in : c < 2 ^ lanes) (d_in : d < 2 ^ lanes) where
        pub cell-within : cell_word used truth a b c d < 2 ^ lanes
        unfolding cell_word
        cell-within =
            choice-within lanes _ _ d (choice-within lanes _ _ c (four-within 0) (four-within 4) c_in)
            (choice-within lanes _ _ c (four-within 8) (four-within 12) c_in) d_in

        pub cell_at : (s : ℕ) → s < lanes
            → bit (cell_word used truth a b c d) s
            ≡ bit truth (number_of_bits (bit a s ∷ bit b s ∷ bit c s ∷ bit d s ∷ []))
        unfolding cell_word number_of_bits
        cell_at s l =
            let place : ℕ → ℕ = λ at. at + bit a s + 2 * bit b s in
            let four : place 0 + 4 ≡ place 4 = omega arith in
            let eight : place 0 + 4 * bit c s + 8 ≡ place 8 + 4 * bit c s = omega arith in
            let twelve : place 8 + 4 ≡ place 12 = omega arith in
            let last : place 0 + 4 * bit c s + 8 * bit d s
            ≡ bit a s + 2 * (bit b s + 2 * (bit c s + 2 * (bit d s + 2 * 0))) =
            omega arith in
            choice-at truth (place 0 + 4 * bit c s) 8 _ _ d s
            (choice-at truth (place 0) 4 _ _ c s (four-at 0 s l) (four-at 4 s l ∙ rw four))
            (choice-at truth (place 8) 4 _ _ c s (four-at 8 s l) (four-at 12 s l ∙ rw twelve) ∙ rw eight)
            ∙ rw last
