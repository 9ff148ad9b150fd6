-- Facts on numbers in lists, on what passes a test, and on lists one after the other, that are nobody's in particular.
-- Cited by every file of this crate.
--   all-*, member-*, keep-*      tests, members and what is kept
--   ascending-*, once-*          ascending lists, and lists without repeats
--   joined-member, entry-below   lists one after the other
--   sum-at, sum_mono             sums
-- Assumes nothing.
use Prim.Native.Nat.{ℕ, zero, suc, ◌≤◌, ◌<◌}
use mathlib.Core.Path.{◌≡◌, refl, sym, ap, ◌∙◌}
use mathlib.Core.Logic.{◌⊎◌, inl, inr, ⊎_elim}
use mathlib.Core.Bool.{Bool, true, false, cond, ◌&&◌, ◌||◌, true≢false, and-false, false≢true}
use mathlib.Core.List.{List, [], ◌∷◌, ◌++◌, map, append-nil}
use native.Mathlib.Omega.{arith}
use lib.ListN.{length, get_or}
use lib.Dec.{eqb}
use borrow.Author.Tests.{eqb-true}
use Rattle.prelude.specs.Lists.{all, keep, joined, up_to, sum, member, least}
use Rattle.prelude.proofs.Tests.{not-both, not-true-false, and_left, and_right, and_intro, or_cases, or_right, lt-or-le}
use Rattle.prelude.proofs.Least.{least-below}
use Rattle.prelude.proofs.Quantifiers.{member-from}
use Rattle.prelude.proofs.Lists.{member-left, member_right, member-cases, member-one, member-head, keep_append}
use Rattle.theory_reach.specs.Orders.{Once, Ascending}

-- ---- numbers in lists

-- a test that all pass passes at each
pub all-member : (p : ℕ → Bool) (xs : List ℕ) → all p xs ≡ true → (x : ℕ) → member x xs ≡ true → p x ≡ true
all-member p [] h x m = absurd (false≢true m)
all-member p (y ∷ xs) h x m =
    ⊎_elim
    (λ e. ap p (eqb-true x y e) ∙ and_left _ _ h)
    (λ e. all-member p xs (and_right (p y) _ h) x e)
    (or_cases _ _ m)

-- a test that passes at each element passes at all
pub all-intro : (p : ℕ → Bool) (xs : List ℕ) → ((x : ℕ) → member x xs ≡ true → p x ≡ true) → all p xs ≡ true
all-intro p [] f = refl
all-intro p (y ∷ xs) f =
    and_intro _ _ (f y (member-head y xs)) (all-intro p xs (λ x m. f x (or_right (eqb x y) _ m)))

-- where not all pass, one does not
pub all-fails : (p : ℕ → Bool) (xs : List ℕ) → all p xs ≡ false → (x : ℕ) × (member x xs ≡ true) × (p x ≡ false)
all-fails p [] h = absurd (true≢false h)
all-fails p (y ∷ xs) h = go (p y) refl h (all-fails p xs)
  where
    go : (t : Bool) → p y ≡ t → (t && all p xs) ≡ false
        → (all p xs ≡ false → (x : ℕ) × (member x xs ≡ true) × (p x ≡ false))
        → (x : ℕ) × (member x (y ∷ xs) ≡ true) × (p x ≡ false)
    go true e k f = let r = f k in (r.0, or_right (eqb r.0 y) _ r.1, r.2)
    go false e k f = (y, member-head y xs, e)

-- ---- the elements that pass, and 0 .. n - 1

-- what is below n is among 0 .. n - 1
pub member-up_to : (k n : ℕ) → k < n → member k (up_to n) ≡ true
member-up_to k zero h = absurd (omega arith)
member-up_to k (suc n) h = go (lt-or-le k n) (member-up_to k n)
  where
    go : (k < n) ⊎ (n ≤ k) → (k < n → member k (up_to n) ≡ true) → member k (up_to n ++ (n ∷ [])) ≡ true
    go (inl e) r = member-left k (up_to n) _ (r e)
    go (inr e) r =
        let s : k ≡ n = omega arith in
        member_right k (up_to n) _ (rw s (member-head n []))

-- every number in 0, .., n - 1 is below n
pub up_to-below : (k n : ℕ) → member k (up_to n) ≡ true → k < n
up_to-below k zero h = absurd (false≢true h)
up_to-below k (suc n) h =
    ⊎_elim
    (λ e. let s = up_to-below k n e in omega arith)
    (λ e. let s = member-one k n e in omega arith)
    (member-cases k (up_to n) (n ∷ []) h)

-- a number is kept when it is there and passes
pub member-keep : (p : ℕ → Bool) (xs : List ℕ) (x : ℕ) → member x (keep p xs) ≡ (member x xs && p x)
member-keep p [] x = refl
member-keep p (y ∷ xs) x = go (p y) (eqb x y) refl refl (member-keep p xs x)
  where
    go : (t u : Bool) → p y ≡ t → eqb x y ≡ u → member x (keep p xs) ≡ (member x xs && p x)
        → member x (cond t (y ∷ keep p xs) (keep p xs)) ≡ ((u || member x xs) && p x)
    go true true e f r = rw f (sym (ap p (eqb-true x y f) ∙ e))
    go true false e f r = rw f r
    go false true e f r =
        let z : p x ≡ false = ap p (eqb-true x y f) ∙ e in
        r ∙ rw z (and-false (member x xs))
    go false false e f r = r

-- where none passes, none is kept
pub keep-none : (p : ℕ → Bool) (xs : List ℕ) → ((x : ℕ) → member x xs ≡ true → p x ≡ false) → keep p xs ≡ []
keep-none p [] f = refl
keep-none p (y ∷ xs) f =
    rw (f y (member-head y xs)) (keep-none p xs (λ x m. f x (or_right (eqb x y) _ m)))

-- where one number passes, it is what is kept
pub keep_one : (p : ℕ → Bool) (n j : ℕ) → j < n → p j ≡ true → ((k : ℕ) → p k ≡ true → k ≡ j) → keep p (up_to n) ≡ j ∷ []
keep_one p zero j h e f = absurd (omega arith)
keep_one p (suc n) j h e f = keep_append p (up_to n) (n ∷ []) ∙ go (lt-or-le j n) (λ l. keep_one p n j l e f)
  where
    go : (j < n) ⊎ (n ≤ j) → (j < n → keep p (up_to n) ≡ j ∷ []) → keep p (up_to n) ++ keep p (n ∷ []) ≡ j ∷ []
    go (inl u) r =
        let z : p n ≡ false = not-true-false _ (λ t. let w = f n t in omega arith) in
        rw (r u, z) refl
    go (inr u) r =
        let s : n ≡ j = omega arith in
        let z : keep p (up_to n) ≡ [] = keep-none p (up_to n)
        (λ x m. not-true-false _ (λ t. let w = f x t in let v = up_to-below x n m in omega arith)) in
        rw (z, s, e) refl

-- what passes of 0 .. n - 1 stands in order
pub keep-ascending : (p : ℕ → Bool) (n : ℕ) → Ascending (keep p (up_to n))
keep-ascending p zero = tt
keep-ascending p (suc n) = rw (keep_append p (up_to n) (n ∷ [])) (go (p n) (keep-ascending p n))
  where
    snoc : (xs : List ℕ) → Ascending xs → ((x : ℕ) → member x xs ≡ true → x < n) → Ascending (xs ++ (n ∷ []))
    snoc [] a f = ((λ y m. absurd (false≢true m)), tt)
    snoc (x ∷ xs) a f = (
      (λ y m. ⊎_elim (a.0 y) (λ e. rw (member-one y n e) (f x (member-head x xs))) (member-cases y xs (n ∷ []) m)),
      snoc xs a.1 (λ y m. f y (or_right (eqb y x) _ m)),
    )

    go : (t : Bool) → Ascending (keep p (up_to n)) → Ascending (keep p (up_to n) ++ cond t (n ∷ []) [])
    go true a =
        snoc (keep p (up_to n)) a (λ x m. up_to-below x n (and_left _ _ (sym (member-keep p (up_to n) x) ∙ m)))
    go false a = rw (append-nil (keep p (up_to n))) a

-- ---- elements by place

-- a later number of an ascending list is higher
pub ascending-get_d : (xs : List ℕ) → Ascending xs → (i j : ℕ) → i < j → j < length xs → get_or xs i 0 < get_or xs j 0
ascending-get_d [] a i j h l = absurd (omega arith)
ascending-get_d (x ∷ xs) a i zero h l = absurd (omega arith)
ascending-get_d (x ∷ xs) a zero (suc j) h l = a.0 (get_or xs j 0) (member-from (get_or xs j 0) xs j (omega arith) refl)
ascending-get_d (x ∷ xs) a (suc i) (suc j) h l = ascending-get_d xs a.1 i j (omega arith) (omega arith)

-- where no number stands twice, a number has one place
pub once-get_d : (xs : List ℕ) → Once xs → (i j : ℕ) → i < length xs → j < length xs → get_or xs i 0 ≡ get_or xs j 0 → i ≡ j
once-get_d [] o i j h l e = absurd (omega arith)
once-get_d (x ∷ xs) o zero zero h l e = refl
once-get_d (x ∷ xs) o zero (suc j) h l e = not-both (member-from x xs j (omega arith) (sym e)) o.0
once-get_d (x ∷ xs) o (suc i) zero h l e = not-both (member-from x xs i (omega arith) e) o.0
once-get_d (x ∷ xs) o (suc i) (suc j) h l e = ap suc (once-get_d xs o.1 i j (omega arith) (omega arith) e)

-- ---- no number twice

-- in an ascending list no number stands twice
pub ascending-once : (xs : List ℕ) → Ascending xs → Once xs
ascending-once [] a = tt
ascending-once (x ∷ xs) a = (not-true-false _ (λ m. let l = a.0 x m in omega arith), ascending-once xs a.1)

-- nor in one list after the other that shares none with it
pub once-append : (xs ys : List ℕ) → Once xs → Once ys → ((x : ℕ) → member x xs ≡ true → member x ys ≡ false)
    → Once (xs ++ ys)
once-append [] ys a b f = b
once-append (x ∷ xs) ys a b f = (
  not-true-false _
      (λ m. ⊎_elim (λ e. not-both e a.0) (λ e. not-both e (f x (member-head x xs))) (member-cases x xs ys m)),
  once-append xs ys a.1 b (λ y m. f y (or_right (eqb y x) _ m)),
)

-- ---- searches

-- what passes is not below the first that does
pub least-at-most : (p : ℕ → Bool) (n i : ℕ) → p i ≡ true → least p n ≤ i
least-at-most p n i e = ⊎_elim (λ u. not-both e (least-below p n i u)) (λ u. u) (lt-or-le i (least p n))

-- ---- one list after the other

-- what is in one of the lists is in all of them joined
pub member-joined : (x : ℕ) (xs : List (List ℕ)) (g : ℕ) → member x (get_or xs g []) ≡ true → member x (joined xs) ≡ true
member-joined x [] g h = absurd (false≢true h)
member-joined x (y ∷ xs) zero h = member-left x y (joined xs) h
member-joined x (y ∷ xs) (suc g) h = member_right x y (joined xs) (member-joined x xs g h)

-- a list that holds something is there
pub entry-below : (x : ℕ) (xs : List (List ℕ)) (g : ℕ) → member x (get_or xs g []) ≡ true → g < length xs
entry-below x [] g h = absurd (false≢true h)
entry-below x (y ∷ xs) zero h = omega arith
entry-below x (y ∷ xs) (suc g) h = let r = entry-below x xs g h in omega arith

-- an element of lists joined is an element of one of them
pub joined-member : (x : ℕ) (xs : List (List ℕ)) → member x (joined xs) ≡ true
    → (g : ℕ) × (g < length xs) × (member x (get_or xs g []) ≡ true)
joined-member x [] h = absurd (false≢true h)
joined-member x (y ∷ xs) h = go (member-cases x y (joined xs) h) (joined-member x xs)
  where
    go : (member x y ≡ true) ⊎ (member x (joined xs) ≡ true)
        → (member x (joined xs) ≡ true → (g : ℕ) × (g < length xs) × (member x (get_or xs g []) ≡ true))
        → (g : ℕ) × (g < length (y ∷ xs)) × (member x (get_or (y ∷ xs) g []) ≡ true)
    go (inl e) f = (0, omega arith, e)
    go (inr e) f = let r = f e in (suc r.0, (let l = r.1 in omega arith), r.2)

-- where no number stands twice, none does behind
pub once-right : (xs ys : List ℕ) → Once (xs ++ ys) → Once ys
once-right [] ys h = h
once-right (x ∷ xs) ys h = once-right xs ys h.1

-- where none stands twice in two lists joined, no element is in both
pub once-apart : (xs ys : List ℕ) → Once (xs ++ ys) → (x : ℕ) → member x xs ≡ true → member x ys ≡ true → ⊥
once-apart [] ys h x m n = true≢false (sym m)
once-apart (y ∷ xs) ys h x m n =
    ⊎_elim
    (λ e. not-both (rw (eqb-true x y e) at (member_right x xs ys n)) h.0)
    (λ e. once-apart xs ys h.1 x e n)
    (or_cases _ _ m)

-- where no number stands twice, each is in one of the lists
pub once-joined : (xs : List (List ℕ)) → Once (joined xs) → (x g h : ℕ) → member x (get_or xs g []) ≡ true
    → member x (get_or xs h []) ≡ true → g ≡ h
once-joined [] o x g h m n = absurd (false≢true m)
once-joined (y ∷ xs) o x zero zero m n = refl
once-joined (y ∷ xs) o x zero (suc h) m n = absurd (once-apart y (joined xs) o x m (member-joined x xs h n))
once-joined (y ∷ xs) o x (suc g) zero m n = absurd (once-apart y (joined xs) o x n (member-joined x xs g m))
once-joined (y ∷ xs) o x (suc g) (suc h) m n = ap suc (once-joined xs (once-right y (joined xs) o) x g h m n)

-- ---- images and sums

-- two functions that agree on a list's elements have one image
pub map_same : {A B : Type 0} (f g : A → B) (xs : List A) (d : A)
    → ((i : ℕ) → i < length xs → f (get_or xs i d) ≡ g (get_or xs i d)) → map f xs ≡ map g xs
map_same f g [] d h = refl
map_same f g (x ∷ xs) d h = rw (h 0 (omega arith), map_same f g xs d (λ i l. h (suc i) (omega arith)))

-- a number is at most the sum
pub sum-at : (xs : List ℕ) (i : ℕ) → get_or xs i 0 ≤ sum xs
sum-at [] i = omega arith
sum-at (x ∷ xs) zero = omega arith
sum-at (x ∷ xs) (suc i) = let r = sum-at xs i in omega arith

module _ {A : Type 0} where
  -- where each is at most the other, so is the sum
  pub sum_mono : (f g : A → ℕ) (xs : List A) → ((x : A) → f x ≤ g x) → sum (map f xs) ≤ sum (map g xs)
  sum_mono f g [] h = omega arith
  sum_mono f g (x ∷ xs) h = let r = sum_mono f g xs h in let s = h x in omega arith
