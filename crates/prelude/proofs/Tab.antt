-- The list of a function's first values: its length, its elements, when two are equal, and how a loop fills a slice
-- with it.
--   length-tab, get_d-tab, tab-get_d   its length and elements
--   tab-add, tab-ext, map-tab        in two parts, two that are equal, mapped
--   tab-cut                          of a list's first elements
--   fill-next, placed-tab           a slice that is being filled with it
-- Assumes nothing.
use mathlib.Core.Path.{◌≡◌, refl, sym, ap, ◌∙◌}
use mathlib.Core.Logic.{⊎_elim}
use mathlib.Core.List.{List, [], ◌∷◌, ◌++◌, map, append_assoc, append-nil}
pub use mathlib.Core.List.{map-append}
use Prim.Native.Nat.{ℕ, zero, suc, ◌+◌, ◌≤◌, ◌<◌}
use native.Mathlib.Nat.{not-suc-le-zero, add-zero, add-suc}
use native.Mathlib.Numerals.{add-one}
use native.Mathlib.Omega.{arith}
use lib.ListN.{length, get_or, set, take, length-append, get_or-append}
use lib.Seq.{get_or_at, ext_get_or, get_or-take, length-take-le}
use Rattle.prelude.specs.Lists.{tab, placed}
use Rattle.prelude.proofs.Tests.{eq-or-ne}
use Rattle.prelude.proofs.Slices.{set-placed}

module _ {A : Type 0} where
  pub length-tab : (f : ℕ → A) (n : ℕ) → length (tab f n) ≡ n
  length-tab f zero = refl
  length-tab f (suc n) = rw (length-append, length-tab f n) (omega arith)

  pub get_d-tab : (f : ℕ → A) (n i : ℕ) (d : A) → i < n → get_or (tab f n) i d ≡ f i
  get_d-tab f zero i d h = absurd (not-suc-le-zero h)
  get_d-tab f (suc n) i d h = ⊎_elim at (λ ne. before (omega arith) (get_d-tab f n i d (omega arith))) (eq-or-ne i n)
    where
      at : i ≡ n → get_or (tab f (suc n)) i d ≡ f i
      at e = rw e (get_or_at (tab f n) (f n) [] d n (length-tab f n))

      before : i < n → get_or (tab f n) i d ≡ f i → get_or (tab f (suc n)) i d ≡ f i
      before l e = let l' : i < length (tab f n) = rw (length-tab f n) l in
          get_or-append (tab f n) (f n ∷ []) d i l' ∙ e

  -- the first a + b values are the first a and then b more
  pub tab-add : (f : ℕ → A) (a b : ℕ) → tab f (a + b) ≡ tab f a ++ tab (λ i. f (a + i)) b
  tab-add f a zero = rw (add-zero, append-nil)
  tab-add f a (suc b) = rw (add-suc, tab-add f a b, append_assoc)

  -- two functions that agree below n have the same list
  pub tab-ext : (f g : ℕ → A) (n : ℕ) → ((i : ℕ) → i < n → f i ≡ g i) → tab f n ≡ tab g n
  tab-ext f g zero h = refl
  tab-ext f g (suc n) h =
      let e : tab f n ≡ tab g n = tab-ext f g n (λ i l. h i (omega arith)) in
      let e' : f n ≡ g n = h n (omega arith) in
      rw (e, e')

  -- a list is the list of its elements
  pub tab-get_d : (d : A) (xs : List A) (n : ℕ) → length xs ≡ n → tab (λ i. get_or xs i d) n ≡ xs
  tab-get_d d xs n e =
      ext_get_or d (tab (λ i. get_or xs i d) n) xs (length-tab (λ i. get_or xs i d) n ∙ sym e)
      (λ i l. get_d-tab (λ i. get_or xs i d) n i d (rw (length-tab (λ i. get_or xs i d) n) at l))

  -- a loop that has filled n elements of a slice fills the next
  pub set-placed-tab : (f : ℕ → A) (n : ℕ) (entry : List A) → n < length entry
      → set (placed (tab f n) entry) n (f n) ≡ placed (tab f (suc n)) entry
  set-placed-tab f n entry h = set-placed (tab f n) entry n (f n) (length-tab f n) h

  -- a loop whose slice has the first j elements stores element j
  pub fill-next : (f : ℕ → A) (j : ℕ) (entry slice : List A) (v : A) → slice ≡ placed (tab f j) entry → j < length entry
      → v ≡ f j
      → set slice j v ≡ placed (tab f (j + 1)) entry
  fill-next f j entry slice v is l e = rw (is, e, add-one) (set-placed-tab f j entry l)

  -- what is filled stands there
  pub placed-tab : (f : ℕ → A) (n : ℕ) (entry : List A) (j : ℕ) (d : A) → j < n
      → get_or (placed (tab f n) entry) j d ≡ f j
  placed-tab f n entry j d l =
      get_or-append (tab f n) _ d j (rw (length-tab f n) l) ∙ get_d-tab f n j d l

module _ {A B : Type 0} where
  -- what a function makes of a list's first elements, cut or not
  pub tab-cut : (f : A → B) (xs : List A) (n : ℕ) (d : A) → n ≤ length xs
      → tab (λ i. f (get_or (take n xs) i d)) (length (take n xs)) ≡ tab (λ i. f (get_or xs i d)) n
  tab-cut f xs n d l =
      rw (length-take-le n xs l)
      (tab-ext (λ i. f (get_or (take n xs) i d)) (λ i. f (get_or xs i d)) n (λ i k. ap f (get_or-take n xs i d k)))

  pub map-tab : (g : A → B) (f : ℕ → A) (n : ℕ) → map g (tab f n) ≡ tab (λ i. g (f i)) n
  map-tab g f zero = refl
  map-tab g f (suc n) = map-append g (tab f n) (f n ∷ []) ∙ ap (λ (r : List B). r ++ (g (f n) ∷ [])) (map-tab g f n)
