-- Facts on lists that are nobody's in particular. Assumes nothing.
use Prim.Native.Nat.{ℕ, zero, suc, ◌+◌, ◌*◌, ◌≤◌}
use mathlib.Core.Path.{◌≡◌, sym, ap, ◌∙◌}
use mathlib.Core.Bool.{true}
use mathlib.Core.List.{List}
use native.Mathlib.Nat.{zero-mul, suc-mul}
use native.Mathlib.Omega.{arith}
use lib.ListN.{length, length-append}
use Rattle.prelude.specs.Lists.{repeated, member}
use Rattle.prelude.proofs.Lists.{member_right}

pub length-repeated : {A : Type 0} (n : ℕ) (xs : List A) → length (repeated n xs) ≡ n * length xs
length-repeated zero xs = sym (zero-mul (length xs))
length-repeated (suc n) xs =
    length-append (repeated n xs) xs ∙ ap (λ (k : ℕ). k + length xs) (length-repeated n xs)
    ∙ sym (suc-mul n (length xs))

pub member-repeated-from : (x n : ℕ) (xs : List ℕ) → 1 ≤ n → member x xs ≡ true → member x (repeated n xs) ≡ true
member-repeated-from x zero xs l h = absurd (omega arith)
member-repeated-from x (suc n) xs l h = member_right x (repeated n xs) xs h
