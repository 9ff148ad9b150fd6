-- How a loop fills the beginning of a slice, one element a turn.
--   Filling                                    after j turns: the length filled, the slice's length kept, what it holds
--   filling-none, filling-more, filling-same   the start, a turn, and a turn that stores one value over and over
--   replicate_more                             one more of a value, at the end
-- Assumes nothing.
use mathlib.Core.Path.{◌≡◌, refl, ap, ◌∙◌}
use mathlib.Core.List.{List, [], ◌∷◌, ◌++◌}
use Prim.Native.Nat.{ℕ, zero, suc, ◌+◌, ◌<◌}
use native.Mathlib.Numerals.{add-one}
use lib.ListN.{length, set, replicate, length-append, length-set}
use Rattle.prelude.specs.Lists.{placed}
use Rattle.prelude.proofs.Slices.{set-placed}

-- the first j elements are those of xs, the rest is as at entry
pub record Filling (entry slice xs : List ℕ) (j : ℕ) : Type 0 where
  pub long : length xs ≡ j
  pub kept : length slice ≡ length entry
  pub holds : slice ≡ placed xs entry

pub filling-none : (entry : List ℕ) → Filling entry entry [] 0
filling-none entry = record { long = refl; kept = refl; holds = refl }

pub filling-more : {entry slice xs ys : List ℕ} {j : ℕ} → Filling entry slice xs j → j < length entry → (a : ℕ)
    → ys ≡ xs ++ (a ∷ [])
    → Filling entry (set slice j a) ys (j + 1)
filling-more {entry} {slice} {xs} {ys} {j} f l a e =
    rw e
    (record {
      long = rw (length-append, f.long);
      kept = length-set slice j a ∙ f.kept;
      holds = rw f.holds (set-placed xs entry j a f.long l);
    })

-- ---- one value over and over

pub replicate_more : {A : Type 0} (n : ℕ) (a : A) → replicate (suc n) a ≡ replicate n a ++ (a ∷ [])
replicate_more zero a = refl
replicate_more {A} (suc n) a = ap (λ (r : List A). a ∷ r) (replicate_more n a)

pub filling-same : {entry slice : List ℕ} {j : ℕ} (a : ℕ) → Filling entry slice (replicate j a) j → j < length entry
    → Filling entry (set slice j a) (replicate (j + 1) a) (j + 1)
filling-same {entry} {slice} {j} a f l = filling-more f l a (rw add-one (replicate_more j a))
