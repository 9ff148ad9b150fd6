-- Facts on tests and lists that are nobody's in particular: implication, `keep`, `joined`, and the numbers below a
-- bound that pass a test, which ascend. Assumes nothing.
use mathlib.Core.Path.{◌≡◌, refl, sym, ap, ◌∙◌}
use mathlib.Core.Logic.{◌⊎◌, inl, inr, ⊎_elim}
use mathlib.Core.Bool.{Bool, true, false, cond, not, ◌&&◌, ◌||◌, false≢true}
use mathlib.Core.List.{List, [], ◌∷◌, ◌++◌, map, append-nil}
use Prim.Native.Nat.{ℕ, zero, suc, ◌+◌, ◌≤◌, ◌<◌}
use native.Mathlib.Nat.{not-suc-le-zero}
use native.Mathlib.Omega.{arith}
use lib.ListN.{length, get_or, length-append, get_or-append}
use lib.Seq.{get_or_at}
use Rattle.prelude.specs.Lists.{any, keep, up_to}
use Rattle.prelude.proofs.Tests.{eq-or-ne, lt-or-le, not-both}
use Rattle.prelude.proofs.Lists.{keep_append}
pub use Rattle.prelude.proofs.Tab.{placed-tab as placed_at_lem}

-- "not a, or b" says that a implies b
pub implies-use : (a b : Bool) → not a || b ≡ true → a ≡ true → b ≡ true
implies-use true b h e = h
implies-use false b h e = absurd (false≢true e)

pub implies-from : (a b : Bool) → (a ≡ true → b ≡ true) → not a || b ≡ true
implies-from true b f = f refl
implies-from false b f = refl

module _ {A : Type 0} where
  -- kept twice is kept by both tests
  pub keep-keep : (p q : A → Bool) (xs : List A) → keep p (keep q xs) ≡ keep (λ x. q x && p x) xs
  keep-keep p q [] = refl
  keep-keep p q (x ∷ xs) = go (q x) (keep-keep p q xs)
    where
      go : (b : Bool) → keep p (keep q xs) ≡ keep (λ x. q x && p x) xs
          → keep p (cond b (x ∷ keep q xs) (keep q xs))
          ≡ cond (b && p x) (x ∷ keep (λ x. q x && p x) xs) (keep (λ x. q x && p x) xs)
      go true e = rw e
      go false e = e

  pub keep-le : (p : A → Bool) (xs : List A) → length (keep p xs) ≤ length xs
  keep-le p [] = omega arith
  keep-le p (x ∷ xs) = go (p x) (keep-le p xs)
    where
      go : (b : Bool) → length (keep p xs) ≤ length xs → length (cond b (x ∷ keep p xs) (keep p xs)) ≤ suc (length xs)
      go true l = omega arith
      go false l = omega arith

  -- two tests that agree keep the same
  pub keep-ext : (p q : A → Bool) → ((x : A) → p x ≡ q x) → (xs : List A) → keep p xs ≡ keep q xs
  keep-ext p q h [] = refl
  keep-ext p q h (x ∷ xs) = rw (h x, keep-ext p q h xs)

  -- some kept one passes exactly when some one passes both tests
  pub any-keep : (p q : A → Bool) (xs : List A) → any p (keep q xs) ≡ any (λ x. q x && p x) xs
  any-keep p q [] = refl
  any-keep p q (x ∷ xs) = go (q x) (any-keep p q xs)
    where
      go : (b : Bool) → any p (keep q xs) ≡ any (λ x. q x && p x) xs
          → any p (cond b (x ∷ keep q xs) (keep q xs)) ≡ (b && p x) || any (λ x. q x && p x) xs
      go true e = rw e
      go false e = e

module _ {A B : Type 0} where
  -- a test of the images is a test of the elements
  pub keep-map : (p : B → Bool) (g : A → B) (xs : List A) → keep p (map g xs) ≡ map g (keep (λ x. p (g x)) xs)
  keep-map p g [] = refl
  keep-map p g (x ∷ xs) = go (p (g x)) (keep-map p g xs)
    where
      go : (b : Bool) → keep p (map g xs) ≡ map g (keep (λ x. p (g x)) xs)
          → cond b (g x ∷ keep p (map g xs)) (keep p (map g xs))
          ≡ map g (cond b (x ∷ keep (λ x. p (g x)) xs) (keep (λ x. p (g x)) xs))
      go true e = ap (λ (r : List B). g x ∷ r) e
      go false e = e

-- the numbers below a bound that pass a test
module _ (q : ℕ → Bool) where
  -- the next number is added where it passes
  pub keep-up_to-suc : (n : ℕ) → keep q (up_to (suc n)) ≡ keep q (up_to n) ++ cond (q n) (n ∷ []) []
  keep-up_to-suc n = keep_append q (up_to n) (n ∷ [])

  -- what holds of the list below n, and of the list with n at its end, holds of the next list
  step : (P : List ℕ → Type 0) (n : ℕ) → (q n ≡ true → P (keep q (up_to n) ++ (n ∷ [])))
      → (q n ≡ false → P (keep q (up_to n))) → P (keep q (up_to (suc n)))
  step P n f g = rw (keep-up_to-suc n) (go (q n) refl)
    where
      go : (b : Bool) → q n ≡ b → P (keep q (up_to n) ++ cond b (n ∷ []) [])
      go true e = f e
      go false e = rw append-nil (g e)

  -- an index of a list with one more at its end
  last-or-before : (xs : List ℕ) (x i : ℕ) → i < length (xs ++ (x ∷ [])) → (i < length xs) ⊎ (i ≡ length xs)
  last-or-before xs x i l =
      let h : i < length xs + 1 = rw (length-append xs (x ∷ [])) at l in
      ⊎_elim inl (λ g. inr (omega arith)) (lt-or-le i (length xs))

  abbrev Passing : ℕ → List ℕ → Type 0
  Passing n xs = (i : ℕ) → i < length xs → (get_or xs i 0 < n) × (q (get_or xs i 0) ≡ true)

  -- each is below the bound and passes
  pub kept-passes : (n : ℕ) → Passing n (keep q (up_to n))
  kept-passes zero = λ i l. absurd (not-suc-le-zero l)
  kept-passes (suc n) = step (Passing (suc n)) n (add (kept-passes n)) (leave (kept-passes n))
    where
      leave : Passing n (keep q (up_to n)) → q n ≡ false → Passing (suc n) (keep q (up_to n))
      leave h e i l = let r : get_or (keep q (up_to n)) i 0 < n = (h i l).0 in (omega arith, (h i l).1)

      add : Passing n (keep q (up_to n)) → q n ≡ true → Passing (suc n) (keep q (up_to n) ++ (n ∷ []))
      add h e i l =
          ⊎_elim
          (λ (m : i < length (keep q (up_to n))).
          let r : get_or (keep q (up_to n)) i 0 < n = (h i m).0 in
          rw (get_or-append (keep q (up_to n)) (n ∷ []) 0 i m) (omega arith, (h i m).1))
          (λ (m : i ≡ length (keep q (up_to n))).
          rw (get_or_at (keep q (up_to n)) n [] 0 i (sym m)) (omega arith, e))
          (last-or-before (keep q (up_to n)) n i l)

  abbrev Ascending : List ℕ → Type 0
  Ascending xs = (i j : ℕ) → i < j → j < length xs → get_or xs i 0 < get_or xs j 0

  -- they ascend, so none stands twice
  pub kept-ascend : (n : ℕ) → Ascending (keep q (up_to n))
  kept-ascend zero = λ i j h l. absurd (not-suc-le-zero l)
  kept-ascend (suc n) = step Ascending n (add (kept-ascend n)) (λ e. kept-ascend n)
    where
      add : Ascending (keep q (up_to n)) → q n ≡ true → Ascending (keep q (up_to n) ++ (n ∷ []))
      add h e i j lt l =
          ⊎_elim
          (λ (m : j < length (keep q (up_to n))).
          rw (
            get_or-append (keep q (up_to n)) (n ∷ []) 0 j m,
            get_or-append (keep q (up_to n)) (n ∷ []) 0 i
                (omega arith),
          ) (h i j lt m))
          (λ (m : j ≡ length (keep q (up_to n))).
          rw (get_or_at (keep q (up_to n)) n [] 0 j (sym m), get_or-append (keep q (up_to n)) (n ∷ []) 0 i (omega arith))
          (kept-passes n i (omega arith)).0)
          (last-or-before (keep q (up_to n)) n j l)

  abbrev Has : ℕ → List ℕ → Type 0
  Has k xs = (i : ℕ) × (i < length xs) × (get_or xs i 0 ≡ k)

  -- each number that passes is there
  pub kept-has : (n k : ℕ) → k < n → q k ≡ true → Has k (keep q (up_to n))
  kept-has zero k l e = absurd (not-suc-le-zero l)
  kept-has (suc n) k l e =
      step (Has k) n (λ t. ⊎_elim at-end (λ ne. before (kept-has n k (omega arith) e)) (eq-or-ne k n))
      (λ f. ⊎_elim (λ (m : k ≡ n). not-both (rw m at e) f) (λ ne. kept-has n k (omega arith) e) (eq-or-ne k n))
    where
      at-end : k ≡ n → Has k (keep q (up_to n) ++ (n ∷ []))
      at-end m = (
        length (keep q (up_to n)),
        rw (length-append (keep q (up_to n)) (n ∷ [])) (omega arith),
        get_or_at (keep q (up_to n)) n [] 0 (length (keep q (up_to n))) refl ∙ sym m,
      )

      before : Has k (keep q (up_to n)) → Has k (keep q (up_to n) ++ (n ∷ []))
      before r =
          let l : r.0 < length (keep q (up_to n)) = r.1 in (
            r.0,
            rw (length-append (keep q (up_to n)) (n ∷ [])) (omega arith),
            get_or-append (keep q (up_to n))
                (n ∷ []) 0 r.0 l ∙ r.2,
          )

-- two tests that agree below n keep the same numbers
pub keep-below : (p q : ℕ → Bool) (n : ℕ) → ((k : ℕ) → k < n → p k ≡ q k) → keep p (up_to n) ≡ keep q (up_to n)
keep-below p q zero h = refl
keep-below p q (suc n) h =
    rw (keep-up_to-suc p n, keep-up_to-suc q n, keep-below p q n (λ k l. h k (omega arith)), h n (omega arith))
