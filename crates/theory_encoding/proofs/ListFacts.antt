-- Facts on lists that are nobody's in particular: all of a conjunction, lists put one behind the other, lists without
-- repetition, zeros trimmed. Assumes nothing.
--   and_parts, all-and, all-tab, all_map: tests of all elements
--   tab-is, joined-tab, length-joined, get_d-joined, get_d-middle: lists of values, one behind the other
--   distinct_from, distinct-at: lists without repetition, by places
--   get_d-trimmed, length-trimmed: zeros trimmed from the end
use mathlib.Core.Path.{◌≡◌, refl, sym, ap, ◌∙◌}
use mathlib.Core.Bool.{Bool, true, false, cond, ◌&&◌, false≢true}
use mathlib.Core.List.{List, [], ◌∷◌, ◌++◌, map}
use Prim.Native.Nat.{ℕ, zero, suc, ◌+◌, ◌*◌, ◌≤◌, ◌<◌, zero-le, suc-le-suc}
use native.Mathlib.Nat.{not-suc-le-zero, le_of_suc-le-suc, mul-suc, mul-zero, zero-add}
use native.Mathlib.Omega.{arith}
use lib.ListN.{length, get_or, length-append, get_or-append}
use lib.Seq.{get_or-append-add}
use lib.Dec.{eqb}
use borrow.Author.Tests.{eqb-true}
use Rattle.prelude.specs.Lists.{all, tab, joined, up_to, same, member_list, distinct, onto, trimmed}
use Rattle.prelude.proofs.Tests.{and_left, and_right, same_test, not-true-false, not-both}
use Rattle.prelude.proofs.Tab.{tab-ext, tab-get_d, tab-add}
use Rattle.prelude.proofs.Quantifiers.{any_at, any-from, all-tab-at, all-tab-from, all-below, below_all}
use Rattle.prelude.proofs.Lists.{joined_snoc}

-- both parts of a conjunction
pub and_parts : (a b : Bool) → a && b ≡ true → (a ≡ true) × (b ≡ true)
and_parts a b h = (and_left a b h, and_right a b h)

module _ {A : Type 0} where
  -- all pass a conjunction when all pass each part
  pub all-and : (p q : A → Bool) (xs : List A) → all (λ x. p x && q x) xs ≡ all p xs && all q xs
  all-and p q [] = refl
  all-and p q (x ∷ xs) = ap (λ (b : Bool). p x && q x && b) (all-and p q xs) ∙ regroup (p x) (q x) (all p xs) (all q xs)
    where
      regroup : (a b c d : Bool) → a && b && (c && d) ≡ (a && c) && (b && d)
      regroup true true c d = refl
      regroup true false true d = refl
      regroup true false false d = refl
      regroup false b c d = refl

  -- all of a list of values, as all of the numbers
  pub all-tab : (p : A → Bool) (f : ℕ → A) (n : ℕ) → all p (tab f n) ≡ all (λ i. p (f i)) (up_to n)
  all-tab p f n =
      same_test (all p (tab f n)) (all (λ i. p (f i)) (up_to n))
      (λ h. below_all (λ i. p (f i)) n (λ i l. all-tab-at p f n i h l))
      (λ h. all-tab-from p f n (λ i l. all-below (λ i. p (f i)) n i h l))

  -- a list of values is the list whose elements they are
  pub tab-is : (f : ℕ → A) (xs : List A) (d : A) → ((i : ℕ) → i < length xs → f i ≡ get_or xs i d)
      → tab f (length xs) ≡ xs
  tab-is f xs d h = tab-ext f (λ i. get_or xs i d) (length xs) h ∙ tab-get_d d xs (length xs) refl

  -- parts of one size, one after the other, are one list of values
  pub joined-tab : (f : ℕ → A) (size m : ℕ) → joined (tab (λ j. tab (λ i. f (size * j + i)) size) m) ≡ tab f (size * m)
  joined-tab f size zero = rw mul-zero
  joined-tab f size (suc m) =
      rw (
        joined_snoc (tab (λ j. tab (λ i. f (size * j + i)) size) m) (tab (λ i. f (size * m + i)) size),
        joined-tab f size m,
        mul-suc,
      )
      (sym (tab-add f (size * m) size))

-- an element of the middle one of three lists
pub get_d-middle : {A : Type 0} (p q r : List A) (at i : ℕ) (d : A) → length p ≡ at → i < length q
    → get_or (p ++ q ++ r) (at + i) d ≡ get_or q i d
get_d-middle p q r at i d e l =
    rw (sym e)
    (get_or-append (p ++ q) r d (length p + i) (rw (length-append p q) (omega arith)) ∙ get_or-append-add p q i d)

-- an element of a mapped list
pub get_d_map : {A B : Type 0} (g : A → B) (xs : List A) (i : ℕ) (d : A) (e : B) → i < length xs
    → get_or (map g xs) i e ≡ g (get_or xs i d)
get_d_map g [] i d e l = absurd (not-suc-le-zero l)
get_d_map g (x ∷ xs) zero d e l = refl
get_d_map g (x ∷ xs) (suc i) d e l = get_d_map g xs i d e (le_of_suc-le-suc l)

pub all_map : {A B : Type 0} (p : B → Bool) (g : A → B) (xs : List A) → all p (map g xs) ≡ all (λ x. p (g x)) xs
all_map p g [] = refl
all_map p g (x ∷ xs) = ap (λ (t : Bool). p (g x) && t) (all_map p g xs)

-- lists of one size, one after the other
module _ {A B : Type 0} (g : A → List B) (size : ℕ) (sized : (x : A) → length (g x) ≡ size) where
  pub length-joined : (xs : List A) → length (joined (map g xs)) ≡ size * length xs
  length-joined [] = rw mul-zero
  length-joined (x ∷ xs) = rw (length-append, sized x, length-joined xs, mul-suc) (omega arith)

  pub get_d-joined : (xs : List A) (j i : ℕ) (d : A) (e : B) → j < length xs → i < size
      → get_or (joined (map g xs)) (size * j + i) e ≡ get_or (g (get_or xs j d)) i e
  get_d-joined [] j i d e h l = absurd (not-suc-le-zero h)
  get_d-joined (x ∷ xs) zero i d e h l =
      rw (mul-zero, zero-add) (get_or-append (g x) (joined (map g xs)) e i (rw (sized x) l))
  get_d-joined (x ∷ xs) (suc j) i d e h l =
      let place : size * suc j + i ≡ length (g x) + (size * j + i) = rw (sized x, mul-suc) (omega arith) in
      rw place
      (get_or-append-add (g x) (joined (map g xs)) (size * j + i) e ∙ get_d-joined xs j i d e (le_of_suc-le-suc h) l)

-- no list stands twice when no two places hold the same
pub distinct_from : (xs : List (List ℕ))
    → ((i j : ℕ) → i < j → j < length xs → same (get_or xs i []) (get_or xs j []) ≡ false) → distinct xs ≡ true
distinct_from [] h = refl
distinct_from (x ∷ xs) h =
    rw (not-true-false (member_list x xs) (λ m.
    let r = any_at (same x) xs [] m in not-both r.2 (h 0 (suc r.0) (suc-le-suc zero-le) (suc-le-suc r.1))))
    (distinct_from xs (λ i j l k. h (suc i) (suc j) (suc-le-suc l) (suc-le-suc k)))

pub distinct-at : (xs : List (List ℕ)) (i j : ℕ) → distinct xs ≡ true → i < j → j < length xs
    → same (get_or xs i []) (get_or xs j []) ≡ false
distinct-at [] i j h l k = absurd (not-suc-le-zero k)
distinct-at (x ∷ xs) i zero h l k = absurd (not-suc-le-zero l)
distinct-at (x ∷ xs) i (suc j) h l k =
    go i l (member_list x xs) refl h (λ i' d l'. distinct-at xs i' j d l' (le_of_suc-le-suc k))
  where
    go : (i : ℕ) → i < suc j → (b : Bool) → member_list x xs ≡ b → cond b false (distinct xs) ≡ true
        → ((i : ℕ) → distinct xs ≡ true → i < j → same (get_or xs i []) (get_or xs j []) ≡ false)
        → same (get_or (x ∷ xs) i []) (get_or xs j []) ≡ false
    go i l true e d again = absurd (false≢true d)
    go zero l false e d again =
        not-true-false (same x (get_or xs j [])) (λ s. not-both (any-from (same x) xs j [] (le_of_suc-le-suc k) s) e)
    go (suc i) l false e d again = again i d (le_of_suc-le-suc l)

-- ---- the zeros at the end

get_d-onto : (x : ℕ) (ys : List ℕ) (i : ℕ) → get_or (onto x ys) i 0 ≡ get_or (x ∷ ys) i 0
get_d-onto x [] i = go i (eqb x 0) refl
  where
    go : (i : ℕ) (b : Bool) → eqb x 0 ≡ b → get_or (cond b [] (x ∷ [])) i 0 ≡ get_or (x ∷ []) i 0
    go zero true e = sym (eqb-true x 0 e)
    go (suc i) true e = refl
    go i false e = refl
get_d-onto x (y ∷ ys) i = refl

-- trimming changes no element
pub get_d-trimmed : (xs : List ℕ) (i : ℕ) → get_or (trimmed xs) i 0 ≡ get_or xs i 0
get_d-trimmed [] i = refl
get_d-trimmed (x ∷ xs) i = get_d-onto x (trimmed xs) i ∙ go i (get_d-trimmed xs)
  where
    go : (i : ℕ) → ((i : ℕ) → get_or (trimmed xs) i 0 ≡ get_or xs i 0) → get_or (x ∷ trimmed xs) i 0 ≡ get_or (x ∷ xs) i 0
    go zero h = refl
    go (suc i) h = h i

length-onto : (x : ℕ) (ys : List ℕ) → length (onto x ys) ≤ suc (length ys)
length-onto x [] = go (eqb x 0)
  where
    go : (b : Bool) → length (cond b [] (x ∷ [])) ≤ 1
    go true = zero-le
    go false = omega arith
length-onto x (y ∷ ys) = omega arith

pub length-trimmed : (xs : List ℕ) → length (trimmed xs) ≤ length xs
length-trimmed [] = zero-le
length-trimmed (x ∷ xs) = omega (arith, length-onto x (trimmed xs), length-trimmed xs)
