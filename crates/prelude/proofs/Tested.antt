-- A loop that tests the numbers below a bound in turn and leaves at the first that fails: one law for each way through
-- it. Assumes nothing.
use mathlib.Core.Path.{◌≡◌, refl, sym, ◌∙◌}
use mathlib.Core.Bool.{Bool, true, false, not}
use Prim.Native.Nat.{ℕ, ◌+◌, ◌≤◌, ◌<◌}
use native.Mathlib.Nat.{le_antisymm}
use native.Mathlib.Omega.{arith}
use borrow.Author.Tests.{not-true, not-false}
use Rattle.prelude.specs.Lists.{all, up_to}
use Rattle.prelude.proofs.Quantifiers.{all-next, all-not}

module _ (p : ℕ → Bool) where
  -- one number more passes
  pub passes : {r : Bool} (i : ℕ) → all p (up_to i) ≡ true → r ≡ p i → not r ≡ false → all p (up_to (i + 1)) ≡ true
  passes {r} i h e t = all-next p i h (sym e ∙ not-false r t)

  -- one number fails
  pub fails : {r : Bool} (n i : ℕ) → i < n → r ≡ p i → not r ≡ true → false ≡ all p (up_to n)
  fails {r} n i l e t = sym (all-not p n i l (sym e ∙ not-true r t))

  -- all have passed
  pub passed : (n i : ℕ) → i ≤ n → n ≤ i → all p (up_to i) ≡ true → true ≡ all p (up_to n)
  passed n i a b h = let e : n ≡ i = le_antisymm b a in rw e (sym h)

-- The invariant of such a loop: i of the n numbers are tested, and all of them pass.
pub record Tested (p : ℕ → Bool) (n i : ℕ) : Type 0 where
  pub within : i ≤ n
  pub pass : all p (up_to i) ≡ true

pub tested-none : {p : ℕ → Bool} {n : ℕ} → Tested p n 0
tested-none = record { within = omega arith; pass = refl }

module _ {p : ℕ → Bool} {n i : ℕ} (h : Tested p n i) where
  pub tested-more : {r : Bool} → i < n → r ≡ p i → not r ≡ false → Tested p n (i + 1)
  tested-more l e t = record { within = omega arith; pass = passes p i h.pass e t }

  pub tested-fails : {r : Bool} → i < n → r ≡ p i → not r ≡ true → false ≡ all p (up_to n)
  tested-fails l e t = fails p n i l e t

  pub tested-all : n ≤ i → true ≡ all p (up_to n)
  tested-all l = passed p n i h.within l h.pass
