-- Facts on lists that are read with a default. Assumes nothing.
use Prim.Native.Nat.{ℕ, zero, suc, ◌≤◌, ◌<◌}
use mathlib.Core.Path.{◌≡◌, refl, sym}
use mathlib.Core.Logic.{◌⊎◌, inl, inr, ⊎_elim}
use mathlib.Core.Bool.{true, false≢true}
use mathlib.Core.List.{List, [], ◌∷◌, map}
use native.Mathlib.Omega.{arith}
use lib.ListN.{length, get_or, set, replicate}
use lib.Seq.{set_out, get_or-set_same, get_or-set_other}
use Rattle.prelude.specs.Lists.{member, repeated}
use Rattle.prelude.proofs.Tests.{lt-or-le, eq-or-ne}
use Rattle.prelude.proofs.Lists.{member-cases}

module _ {A : Type 0} where
  -- the default n times over is the default everywhere
  pub get_d-replicate-default : (n i : ℕ) (d : A) → get_or (replicate n d) i d ≡ d
  get_d-replicate-default zero i d = refl
  get_d-replicate-default (suc n) zero d = refl
  get_d-replicate-default (suc n) (suc i) d = get_d-replicate-default n i d

-- what stands at j after a store at i: the new element, or the old one (there is no place i, or j is another)
pub data AfterSet {A : Type 0} (l : List A) (i j : ℕ) (a d : A) : Type 0 where
  new : j ≡ i → i < length l → get_or (set l i a) j d ≡ a → AfterSet l i j a d
  old : (j ≡ i → length l ≤ i) → get_or (set l i a) j d ≡ get_or l j d → AfterSet l i j a d

pub after-set : {A : Type 0} (l : List A) (i j : ℕ) (a d : A) → AfterSet l i j a d
after-set l i j a d = go (eq-or-ne j i) (lt-or-le i (length l))
  where
    go : (j ≡ i) ⊎ (j ≡ i → ⊥) → (i < length l) ⊎ (length l ≤ i) → AfterSet l i j a d
    go (inl e) (inl h) = new e h (rw (e, get_or-set_same l i a d h) refl)
    go (inl e) (inr h) = old (λ _. h) (rw (set_out l i a h) refl)
    go (inr n) h = old (λ e. absurd (n e)) (get_or-set_other l i j a d n)

-- an empty list is no other
pub nothing : {A : Type 0} {x : A} {xs : List A} → ◌≡◌ {A = List A} [] (x ∷ xs) → ⊥
nothing e = let z : ◌≡◌ {A = ℕ} 0 1 = cc in omega arith

module _ {A B : Type 0} (f : A → B) (injective : (a b : A) → f a ≡ f b → a ≡ b) where
  -- an injective function of the elements is one of lists
  pub map_injective : (xs ys : List A) → map f xs ≡ map f ys → xs ≡ ys
  map_injective [] [] e = refl
  map_injective [] (y ∷ ys) e = absurd (nothing e)
  map_injective (x ∷ xs) [] e = absurd (nothing (sym e))
  map_injective (x ∷ xs) (y ∷ ys) e =
      let p : x ≡ y = injective x y (cc) in
      let q : xs ≡ ys = map_injective xs ys (cc) in
      cc

-- what is in a list n times over is in the list
pub member-repeated : (x n : ℕ) (xs : List ℕ) → member x (repeated n xs) ≡ true → member x xs ≡ true
member-repeated x zero xs h = absurd (false≢true h)
member-repeated x (suc n) xs h = ⊎_elim (member-repeated x n xs) (λ m. m) (member-cases x (repeated n xs) xs h)
