-- Facts on lists, numbers and Bools that are nobody's in particular. Assumes nothing.
--   and3, ne_same, member_list-from: tests
--   distinct-parts, distinct_apart, Apart, apart-append: lists without repetition
--   tab-map, get_d-behind: elements
use Prim.Native.Nat.{ℕ, zero, suc, ◌+◌, ◌-◌, ◌<◌, ◌≤◌}
use mathlib.Core.Path.{◌≡◌, refl, sym, ◌∙◌}
use mathlib.Core.Logic.{◌⊎◌, inl, inr}
use mathlib.Core.Bool.{Bool, true, false, ◌&&◌, cond, false≢true}
use mathlib.Core.List.{List, [], ◌∷◌, ◌++◌, map}
use native.Mathlib.Omega.{arith}
use lib.ListN.{length, get_or, length-append, get_or-append}
use lib.Seq.{get_or-append-add}
use Rattle.prelude.specs.Lists.{same, member_list, distinct, tab, up_to}
use Rattle.prelude.proofs.Tests.{not-true-false, lt-or-le}
use Rattle.prelude.proofs.Quantifiers.{any-from}
use Rattle.prelude.proofs.Same.{same-eq, eq-same}
use Rattle.prelude.proofs.Tab.{map-tab}

-- three tests that all pass
pub and3 : (a b c : Bool) → a && b && c ≡ true → (a ≡ true) × (b ≡ true) × (c ≡ true)
and3 true true c h = (refl, refl, h)
and3 true false c h = absurd (false≢true h)
and3 false b c h = absurd (false≢true h)

-- lists that differ are not the same
pub ne_same : (xs ys : List ℕ) → (xs ≡ ys → ⊥) → same xs ys ≡ false
ne_same xs ys h = not-true-false (same xs ys) (λ e. h (same-eq xs ys e))

-- a list that is there is found
pub member_list-from : (x : List ℕ) (xs : List (List ℕ)) (i : ℕ) → i < length xs → x ≡ get_or xs i []
    → member_list x xs ≡ true
member_list-from x xs i l e = any-from (same x) xs i [] l (eq-same x (get_or xs i []) e)

-- a list of lists without repeats, by its first
pub distinct-parts : (x : List ℕ) (xs : List (List ℕ)) → distinct (x ∷ xs) ≡ true
    → (member_list x xs ≡ false) × (distinct xs ≡ true)
distinct-parts x xs d = go (member_list x xs) d
  where
    go : (b : Bool) → cond b false (distinct xs) ≡ true → (b ≡ false) × (distinct xs ≡ true)
    go true d = absurd (false≢true d)
    go false d = (refl, d)

-- in a list in which none stands twice, two places hold different elements
pub distinct_apart : (xs : List (List ℕ)) → distinct xs ≡ true → (i j : ℕ) → i < j → j < length xs
    → get_or xs i [] ≡ get_or xs j [] → ⊥
distinct_apart [] d i j l g e = omega arith
distinct_apart (x ∷ xs) d i zero l g e = omega arith
distinct_apart (x ∷ xs) d zero (suc j) l g e =
    false≢true (sym (distinct-parts x xs d).0 ∙ member_list-from x xs j (omega arith) e)
distinct_apart (x ∷ xs) d (suc i) (suc j) l g e =
    distinct_apart xs (distinct-parts x xs d).1 i j (omega arith) (omega arith) e

-- the values of a function below n, as a map
pub tab-map : {A : Type 0} (f : ℕ → A) (n : ℕ) → tab f n ≡ map f (up_to n)
tab-map f n = sym (map-tab f (λ k. k) n)

-- behind the first of two lists
pub get_d-behind : {A : Type 0} (xs ys : List A) (i : ℕ) (d : A) → length xs ≤ i
    → get_or (xs ++ ys) i d ≡ get_or ys (i - length xs) d
get_d-behind xs ys i d le =
    let e : length xs + (i - length xs) ≡ i = omega arith in rw e at (get_or-append-add xs ys (i - length xs) d)

-- no two places hold the same
abbrev pub Apart : List (List ℕ) → Type 0
Apart xs = (i j : ℕ) → i < j → j < length xs → get_or xs i [] ≡ get_or xs j [] → ⊥

pub apart-append : (xs ys : List (List ℕ)) → Apart xs → Apart ys
    → ((i j : ℕ) → i < length xs → j < length ys → get_or xs i [] ≡ get_or ys j [] → ⊥) → Apart (xs ++ ys)
apart-append xs ys p q cross i j l g e = go (lt-or-le i (length xs)) (lt-or-le j (length xs))
  where
    n : length (xs ++ ys) ≡ length xs + length ys
    n = length-append xs ys

    go : (i < length xs) ⊎ (length xs ≤ i) → (j < length xs) ⊎ (length xs ≤ j) → ⊥
    go (inl a) (inl b) = p i j l b (sym (get_or-append xs ys [] i a) ∙ e ∙ get_or-append xs ys [] j b)
    go (inl a) (inr b) = cross i (j - length xs) a (omega (arith, n))
        (sym (get_or-append xs ys [] i a) ∙ e ∙ get_d-behind xs ys j [] b)
    go (inr a) (inl b) = omega (arith, n)
    go (inr a) (inr b) = q (i - length xs) (j - length xs) (omega (arith, n)) (omega (arith, n))
        (sym (get_d-behind xs ys i [] a) ∙ e ∙ get_d-behind xs ys j [] b)
