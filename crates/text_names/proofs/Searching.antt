-- A loop that looks for the first number below a bound that passes a test: one law for each way through it, of its
-- invariant Sought. Assumes nothing.
use Prim.Native.Nat.{ℕ, ◌+◌, ◌<◌}
use mathlib.Core.Path.{◌≡◌, sym, ◌∙◌}
use mathlib.Core.Bool.{Bool, true, false}
use native.Mathlib.Omega.{arith}
use borrow.Author.Count.{below_more}
use Rattle.prelude.specs.Lists.{least, IfBelow}
use Rattle.std.specs.declared.option.Option.TheVariants.{None, Some}
use Rattle.prelude.proofs.Least.{least-is}
pub use Rattle.text_names.specs.Search.{Sought}

pub sought-none : {p : ℕ → Bool} {n : ℕ} → Sought p n 0
sought-none = record { within = omega arith; none = λ j l. absurd (omega arith) }

module _ {p : ℕ → Bool} {n i : ℕ} (h : Sought p n i) where
  pub sought-more : {r : Bool} → i < n → r ≡ p i → r ≡ false → Sought p n (i + 1)
  sought-more l e t =
      record { within = omega arith; none = below_more (λ j. p j ≡ false) i h.none (sym e ∙ t) }

  pub sought-here : {r : Bool} → i < n → r ≡ p i → r ≡ true → IfBelow (least p n) n (Some i)
  sought-here l e t = let s : least p n ≡ i = least-is p n i (omega arith) h.none (λ _. sym e ∙ t) in (omega arith, sym s)

pub sought-all : {p : ℕ → Bool} {n : ℕ} → Sought p n n → IfBelow (least p n) n None
sought-all {p} {n} h = let s : least p n ≡ n = least-is p n n h.within h.none (λ m. absurd (omega arith)) in λ l. omega arith
