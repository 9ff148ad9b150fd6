-- The two masks of an assignment of n inputs: what each test of them refuses. Assumes nothing.
--   shifted: 1 shifted by the number of inputs
--   masks-fixed, masks-ones, masks-within: the tests in their order
--   not_within: a value bit on an input that is not fixed
use mathlib.Core.Path.{◌≡◌}
use mathlib.Core.Bool.{false}
use Prim.Native.Nat.{ℕ, ◌*◌, ◌%◌, ◌^◌, ◌≤◌, ◌<◌}
use native.Mathlib.Omega.{arith}
use borrow.Author.Tests.{lt-ltb, le-ltb, lt-leb}
use lib.Dec.{leb}
use lib.Pow.{pow_mono}
use Rattle.prelude.proofs.Quantifiers.{all-not}
use Rattle.netlist.specs.Limits.{max_inputs}
use Rattle.netlist.specs.Assignments.{bit, is_within, are_masks}

pub shifted : {n : ℕ} → n ≤ max_inputs → 1 * 2 ^ n % 2 ^ 64 ≡ 2 ^ n
shifted {n} h = let f : 2 ^ n ≤ 2 ^ max_inputs = pow_mono {i = n} {j = max_inputs} h in omega arith

module _ (n fixed ones : ℕ) where
  pub masks-fixed : 2 ^ n ≤ fixed → are_masks n fixed ones ≡ false
  unfolding are_masks
  masks-fixed h = rw (le-ltb fixed (2 ^ n) h)

  pub masks-ones : fixed < 2 ^ n → 2 ^ n ≤ ones → are_masks n fixed ones ≡ false
  unfolding are_masks
  masks-ones l h = rw (lt-ltb fixed (2 ^ n) l, le-ltb ones (2 ^ n) h)

  pub masks-within : fixed < 2 ^ n → ones < 2 ^ n → are_masks n fixed ones ≡ is_within n fixed ones
  unfolding are_masks
  masks-within l h = rw (lt-ltb fixed (2 ^ n) l, lt-ltb ones (2 ^ n) h)

  pub not_within : (i : ℕ) → i < n → bit fixed i < bit ones i → is_within n fixed ones ≡ false
  unfolding is_within
  not_within i l h = all-not (λ i. leb (bit ones i) (bit fixed i)) n i l (lt-leb (bit ones i) (bit fixed i) h)
