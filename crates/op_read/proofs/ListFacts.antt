-- Lists read back from a longer one. Assumes nothing.
use mathlib.Core.Path.{◌≡◌, ◌∙◌}
use mathlib.Core.List.{List}
use Prim.Native.Nat.{ℕ}
use native.Mathlib.Omega.{arith}
use lib.ListN.{length, get_or, drop, get_or-append}
use Rattle.prelude.specs.Lists.{tab, placed}
use Rattle.prelude.proofs.Tab.{tab-ext, tab-get_d}

module _ {A : Type 0} where
  -- the front of what is placed
  pub placed-front : (z : A) (xs d : List A) (n : ℕ) → length xs ≡ n → tab (λ i. get_or (placed xs d) i z) n ≡ xs
  placed-front z xs d n e =
      tab-ext (λ i. get_or (placed xs d) i z) (λ i. get_or xs i z) n
      (λ i l. get_or-append xs (drop (length xs) d) z i (omega arith))
      ∙ tab-get_d z xs n e
