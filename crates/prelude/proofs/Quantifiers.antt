-- `all` and `any` over a list and over the numbers below a bound, taken apart and put together.
--   all-at, all_from, any_at, any-from   over a list, by element
--   all_append, any_append               over two lists
--   all-tab-*, any-tab-*, all-below, below_all, any_below, below-any   over numbers below a bound
--   all-next, all-not, all-ext           one more; none; two tests
--   member-at, member-from               members by place
-- Assumes nothing.
use mathlib.Core.Path.{◌≡◌, refl, sym, ap, ◌∙◌, subst}
use mathlib.Core.Logic.{⊎_elim}
use mathlib.Core.Bool.{Bool, true, ◌&&◌, ◌||◌, and_assoc, or_assoc, false≢true, false}
use mathlib.Core.List.{List, [], ◌∷◌, ◌++◌}
use Prim.Native.Nat.{ℕ, zero, suc, ◌+◌, ◌<◌, zero-le, suc-le-suc}
use native.Mathlib.Nat.{not-suc-le-zero, le_of_suc-le-suc}
use native.Mathlib.Numerals.{add-one}
use lib.ListN.{length, get_or}
use lib.Dec.{eqb}
use borrow.Author.Tests.{eqb-true, eq-eqb}
use Rattle.prelude.specs.Lists.{all, any, tab, up_to, member}
use Rattle.prelude.proofs.Tests.{and_left, and_right, and_intro, or_cases, or_left, or_right, same_test}
use Rattle.prelude.proofs.Tests.{not-both, not-true-false}
use Rattle.prelude.proofs.Tab.{length-tab, get_d-tab}

module _ {A : Type 0} (p : A → Bool) where
  -- what all pass, each passes
  pub all-at : (xs : List A) (i : ℕ) (d : A) → all p xs ≡ true → i < length xs → p (get_or xs i d) ≡ true
  all-at [] i d h l = absurd (not-suc-le-zero l)
  all-at (x ∷ xs) zero d h l = and_left (p x) (all p xs) h
  all-at (x ∷ xs) (suc i) d h l = all-at xs i d (and_right (p x) (all p xs) h) (le_of_suc-le-suc l)

  pub all_from : (xs : List A) (d : A) → ((i : ℕ) → i < length xs → p (get_or xs i d) ≡ true) → all p xs ≡ true
  all_from [] d h = refl
  all_from (x ∷ xs) d h =
      and_intro (p x) (all p xs) (h 0 (suc-le-suc zero-le)) (all_from xs d (λ i l. h (suc i) (suc-le-suc l)))

  -- what any passes, one passes
  pub any_at : (xs : List A) (d : A) → any p xs ≡ true → (i : ℕ) × (i < length xs) × (p (get_or xs i d) ≡ true)
  any_at [] d h = absurd (false≢true h)
  any_at (x ∷ xs) d h =
      ⊎_elim (λ e. (0, suc-le-suc zero-le, e))
      (λ e. let r : (i : ℕ) × (i < length xs) × (p (get_or xs i d) ≡ true) = any_at xs d e in
      (suc r.0, suc-le-suc r.1, r.2))
      (or_cases (p x) (any p xs) h)

  pub any-from : (xs : List A) (i : ℕ) (d : A) → i < length xs → p (get_or xs i d) ≡ true → any p xs ≡ true
  any-from [] i d l h = absurd (not-suc-le-zero l)
  any-from (x ∷ xs) zero d l h = or_left (p x) (any p xs) h
  any-from (x ∷ xs) (suc i) d l h = or_right (p x) (any p xs) (any-from xs i d (le_of_suc-le-suc l) h)

  pub all_append : (xs ys : List A) → all p (xs ++ ys) ≡ all p xs && all p ys
  all_append [] ys = refl
  all_append (x ∷ xs) ys = ap (λ (b : Bool). p x && b) (all_append xs ys) ∙ sym (and_assoc (p x) (all p xs) (all p ys))

  pub any_append : (xs ys : List A) → any p (xs ++ ys) ≡ any p xs || any p ys
  any_append [] ys = refl
  any_append (x ∷ xs) ys = ap (λ (b : Bool). p x || b) (any_append xs ys) ∙ sym (or_assoc (p x) (any p xs) (any p ys))

-- over a list of values of a function
module _ {A : Type 0} (p : A → Bool) (f : ℕ → A) (n : ℕ) where
  pub all-tab-at : (i : ℕ) → all p (tab f n) ≡ true → i < n → p (f i) ≡ true
  all-tab-at i h l =
      subst (λ (a : A). p a ≡ true) (get_d-tab f n i (f i) l)
      (all-at p (tab f n) i (f i) h (rw (length-tab f n) l))

  pub all-tab-from : ((i : ℕ) → i < n → p (f i) ≡ true) → all p (tab f n) ≡ true
  all-tab-from h =
      all_from p (tab f n) (f 0)
      (λ i l. let l' : i < n = rw (length-tab f n) at l in rw (get_d-tab f n i (f 0) l') (h i l'))

  pub any-tab-at : any p (tab f n) ≡ true → (i : ℕ) × (i < n) × (p (f i) ≡ true)
  any-tab-at h =
      let r : (i : ℕ) × (i < length (tab f n)) × (p (get_or (tab f n) i (f 0)) ≡ true) = any_at p (tab f n) (f 0) h in
      let l : r.0 < n = rw (length-tab f n) at r.1 in
      (r.0, l, rw (get_d-tab f n r.0 (f 0) l) at r.2)

  pub any-tab-from : (i : ℕ) → i < n → p (f i) ≡ true → any p (tab f n) ≡ true
  any-tab-from i l h =
      any-from p (tab f n) i (f i) (rw (length-tab f n) l) (rw (get_d-tab f n i (f i) l) h)

-- over the numbers below n
module _ (p : ℕ → Bool) (n : ℕ) where
  pub all-below : (i : ℕ) → all p (up_to n) ≡ true → i < n → p i ≡ true
  all-below = all-tab-at p (λ k. k) n

  pub below_all : ((i : ℕ) → i < n → p i ≡ true) → all p (up_to n) ≡ true
  below_all = all-tab-from p (λ k. k) n

  pub any_below : any p (up_to n) ≡ true → (i : ℕ) × (i < n) × (p i ≡ true)
  any_below = any-tab-at p (λ k. k) n

  pub below-any : (i : ℕ) → i < n → p i ≡ true → any p (up_to n) ≡ true
  below-any = any-tab-from p (λ k. k) n

-- one number more passes
pub all-next : (p : ℕ → Bool) (i : ℕ) → all p (up_to i) ≡ true → p i ≡ true → all p (up_to (i + 1)) ≡ true
all-next p i h e = rw (add-one, all_append, h, e)

-- a test that fails at a number below n does not hold of all
pub all-not : (p : ℕ → Bool) (n i : ℕ) → i < n → p i ≡ false → all p (up_to n) ≡ false
all-not p n i l e = not-true-false (all p (up_to n)) (λ h. not-both (all-below p n i h l) e)

-- two tests that agree below n hold together there
pub all-ext : (p q : ℕ → Bool) (n : ℕ) → ((i : ℕ) → i < n → p i ≡ q i) → all p (up_to n) ≡ all q (up_to n)
all-ext p q n h =
    same_test (all p (up_to n)) (all q (up_to n)) (λ a. below_all q n (λ i l. sym (h i l) ∙ all-below p n i a l))
    (λ a. below_all p n (λ i l. h i l ∙ all-below q n i a l))

-- a member stands at some index, and what stands at an index is a member
pub member-at : (x : ℕ) (xs : List ℕ) → member x xs ≡ true → (i : ℕ) × (i < length xs) × (get_or xs i 0 ≡ x)
member-at x xs h =
    let r : (i : ℕ) × (i < length xs) × (eqb x (get_or xs i 0) ≡ true) = any_at (eqb x) xs 0 h in
    (r.0, r.1, sym (eqb-true x (get_or xs r.0 0) r.2))

pub member-from : (x : ℕ) (xs : List ℕ) (i : ℕ) → i < length xs → get_or xs i 0 ≡ x → member x xs ≡ true
member-from x xs i l e = any-from (eqb x) xs i 0 l (eq-eqb x (get_or xs i 0) (sym e))
