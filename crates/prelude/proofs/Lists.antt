-- Lists one after the other: joined, written behind each other, mapped, summed, tested and searched.
--   joined-*, length-joined   lists one after the other
--   keep_append, all-joined   tests over them
--   sets-sets                 two stores behind each other
--   sum-*, map-*              sums and maps
--   member-*                  members of lists put together
-- Assumes nothing.
use mathlib.Core.Path.{◌≡◌, refl, sym, ap, ◌∙◌}
use mathlib.Core.Logic.{◌⊎◌, inl, inr, ⊎_elim}
use mathlib.Core.Bool.{Bool, true, false, cond, ◌&&◌, ◌||◌, false≢true}
use mathlib.Core.List.{List, [], ◌∷◌, ◌++◌, map, append_assoc, append-nil}
use Prim.Native.Nat.{ℕ, zero, suc, ◌+◌}
use native.Mathlib.Nat.{add-zero}
use native.Mathlib.Omega.{arith}
use lib.ListN.{length, set, replicate, length-append}
use lib.Seq.{sets}
use lib.Dec.{eqb}
use borrow.Author.Tests.{eqb-true, eq-eqb}
use Rattle.prelude.specs.Lists.{all, keep, joined, sum, member}
use Rattle.prelude.proofs.Tests.{or_cases, or_left, or_right}
use Rattle.prelude.proofs.Quantifiers.{all_append, any_append}

module _ {A : Type 0} where
  -- joining one list of lists after the other
  pub joined-append : (xs ys : List (List A)) → joined (xs ++ ys) ≡ joined xs ++ joined ys
  joined-append [] ys = refl
  joined-append (x ∷ xs) ys =
      ap (λ (l : List A). x ++ l) (joined-append xs ys) ∙ sym (append_assoc x (joined xs) (joined ys))

  -- lists joined, with one list more at the end
  pub joined_snoc : (xs : List (List A)) (x : List A) → joined (xs ++ (x ∷ [])) ≡ joined xs ++ x
  joined_snoc xs x = joined-append xs (x ∷ []) ∙ ap (λ (l : List A). joined xs ++ l) (append-nil x)

  -- as long as the lists together
  pub length-joined : (xs : List (List A)) → length (joined xs) ≡ sum (map length xs)
  length-joined [] = refl
  length-joined (x ∷ xs) = length-append x (joined xs) ∙ ap (λ (k : ℕ). length x + k) (length-joined xs)

  -- what passes of one list after the other
  pub keep_append : (p : A → Bool) (xs ys : List A) → keep p (xs ++ ys) ≡ keep p xs ++ keep p ys
  keep_append p [] ys = refl
  keep_append p (x ∷ xs) ys = go (p x) (keep_append p xs ys)
    where
      go : (t : Bool) → keep p (xs ++ ys) ≡ keep p xs ++ keep p ys
          → cond t (x ∷ keep p (xs ++ ys)) (keep p (xs ++ ys)) ≡ cond t (x ∷ keep p xs) (keep p xs) ++ keep p ys
      go true e = ap (λ (l : List A). x ∷ l) e
      go false e = e

  -- all of the elements of all lists
  pub all-joined : (p : A → Bool) (xs : List (List A)) → all p (joined xs) ≡ all (all p) xs
  all-joined p [] = refl
  all-joined p (x ∷ xs) = all_append p x (joined xs) ∙ ap (λ (t : Bool). all p x && t) (all-joined p xs)

  -- storing one list and then another behind it is storing both
  pub sets-sets : (l : List A) (i : ℕ) (xs ys : List A) → sets (sets l i xs) (i + length xs) ys ≡ sets l i (xs ++ ys)
  sets-sets l i [] ys = rw (add-zero)
  sets-sets l i (x ∷ xs) ys =
      let e : i + suc (length xs) ≡ suc i + length xs = omega arith in
      rw e (sets-sets (set l i x) (suc i) xs ys)

  -- a sum over one list after the other
  pub sum-map-append : (f : A → ℕ) (xs ys : List A) → sum (map f (xs ++ ys)) ≡ sum (map f xs) + sum (map f ys)
  sum-map-append f [] ys = omega arith
  sum-map-append f (x ∷ xs) ys = let r = sum-map-append f xs ys in omega arith

pub sum-append : (xs ys : List ℕ) → sum (xs ++ ys) ≡ sum xs + sum ys
sum-append [] ys = omega arith
sum-append (x ∷ xs) ys = let h = sum-append xs ys in omega arith

module _ {A B : Type 0} (f : A → B) where
  -- a map after a store, and of equal elements
  pub map-set : (xs : List A) (i : ℕ) (a : A) → map f (set xs i a) ≡ set (map f xs) i (f a)
  map-set [] i a = refl
  map-set (x ∷ xs) zero a = refl
  map-set (x ∷ xs) (suc i) a = ap {B = List B} (λ r. f x ∷ r) (map-set xs i a)

  pub map-replicate : (n : ℕ) (a : A) → map f (replicate n a) ≡ replicate n (f a)
  map-replicate zero a = refl
  map-replicate (suc n) a = ap {B = List B} (λ r. f a ∷ r) (map-replicate n a)

-- ---- numbers in lists

-- a number is in one list after the other when it is in either
pub member-append : (x : ℕ) (xs ys : List ℕ) → member x (xs ++ ys) ≡ (member x xs || member x ys)
member-append x xs ys = any_append (eqb x) xs ys

-- in the first,
pub member-left : (x : ℕ) (xs ys : List ℕ) → member x xs ≡ true → member x (xs ++ ys) ≡ true
member-left x xs ys h = member-append x xs ys ∙ or_left _ _ h

-- in the second,
pub member_right : (x : ℕ) (xs ys : List ℕ) → member x ys ≡ true → member x (xs ++ ys) ≡ true
member_right x xs ys h = member-append x xs ys ∙ or_right (member x xs) _ h

-- a number in two lists, one after the other, is in one of them
pub member-cases : (x : ℕ) (xs ys : List ℕ) → member x (xs ++ ys) ≡ true → (member x xs ≡ true) ⊎ (member x ys ≡ true)
member-cases x xs ys h = or_cases _ _ (sym (member-append x xs ys) ∙ h)

-- the first number is in the list, and so is what is in the rest
pub member-head : (x : ℕ) (xs : List ℕ) → member x (x ∷ xs) ≡ true
member-head x xs = or_left _ _ (eq-eqb x x refl)

pub member-rest : (x y : ℕ) (xs : List ℕ) → member x xs ≡ true → member x (y ∷ xs) ≡ true
member-rest x y xs h = or_right (eqb x y) (member x xs) h

-- a number in a list is its first or in its rest
pub member-first : (x y : ℕ) (xs : List ℕ) → member x (y ∷ xs) ≡ true → (x ≡ y) ⊎ (member x xs ≡ true)
member-first x y xs h = ⊎_elim (λ e. inl (eqb-true x y e)) inr (or_cases (eqb x y) (member x xs) h)

-- the one number of a list
pub member-one : (x y : ℕ) → member x (y ∷ []) ≡ true → x ≡ y
member-one x y h = ⊎_elim (λ e. e) (λ e. absurd (false≢true e)) (member-first x y [] h)
