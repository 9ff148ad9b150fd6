-- A list without repeats, counted. Cited for the groups, which hold each gate once. Assumes nothing.
use Prim.Native.Nat.{ℕ, zero, suc, ◌<◌}
use mathlib.Core.Path.{◌≡◌, refl, sym, ap, ◌∙◌}
use mathlib.Core.Bool.{true, false}
use mathlib.Core.List.{List, [], ◌∷◌}
use native.Mathlib.Omega.{arith}
use lib.ListN.{length}
use lib.Dec.{eqb}
use borrow.Author.Tests.{ne_eqb}
use Rattle.prelude.specs.Lists.{member, count_below}
use Rattle.prelude.proofs.Tests.{or_right}
use Rattle.prelude.proofs.Lists.{member-head}
use Rattle.prelude.proofs.Counting.{count_below-one}
use Rattle.theory_reach.specs.Orders.{Once}

-- a list without repeats is as long as its numbers are many
pub once-length : (xs : List ℕ) (n : ℕ) → Once xs → ((x : ℕ) → member x xs ≡ true → x < n)
    → length xs ≡ count_below (λ k. member k xs) n
once-length [] n a f = sym (none n)
  where
    none : (n : ℕ) → count_below (λ k. false) n ≡ 0
    none zero = refl
    none (suc n) = let r = none n in omega arith
once-length (x ∷ xs) n a f =
    let r = once-length xs n a.1 (λ y m. f y (or_right (eqb y x) _ m)) in
    let s =
    count_below-one (λ k. member k xs) (λ k. member k (x ∷ xs)) n x (f x (member-head x xs)) a.0 (member-head x xs)
    (λ k d. rw (ne_eqb k x d) refl) in
    ap suc r ∙ sym s
