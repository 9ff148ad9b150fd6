-- What the ways to make a reader answer, by the next byte. Cited by completeness and by the code that reads.
-- Assumes nothing.
--   if_next-true, if_next-false: a reader chosen by the next byte
--   expect-hit, expect-back: bytes that must stand there
--   bind-got: one reader after another
use Prim.Native.Nat.{ℕ}
use mathlib.Core.Path.{◌≡◌, refl, ◌∙◌}
use mathlib.Core.Bool.{Bool, true, false}
use mathlib.Core.List.{List, [], ◌∷◌, ◌++◌}
use lib.Dec.{eqb}
use borrow.Author.Tests.{eq-eqb}
use Rattle.netlist.specs.Parse.{Reader, got, on_test, if_next, expect, on_parsed, bind}

module _ {A : Type 0} (test : ℕ → Bool) (first : ℕ → Reader A) (second : Reader A) where
  pub if_next-true : (c : ℕ) (s : List ℕ) → test c ≡ true → if_next test first second (c ∷ s) ≡ first c s
  unfolding if_next on_test
  if_next-true c s h = rw h

  pub if_next-false : (c : ℕ) (s : List ℕ) → test c ≡ false → if_next test first second (c ∷ s) ≡ second (c ∷ s)
  unfolding if_next on_test
  if_next-false c s h = rw h

module _ {A : Type 0} (c : ℕ) (cs : List ℕ) (next : Reader A) where
  pub expect-hit : (s : List ℕ) → expect (c ∷ cs) next (c ∷ s) ≡ expect cs next s
  unfolding expect
  expect-hit s = if_next-true (eqb c) _ _ c s (eq-eqb c c refl)

-- what is expected is there
pub expect-back : {A : Type 0} (cs : List ℕ) (next : Reader A) (s : List ℕ) → expect cs next (cs ++ s) ≡ next s
unfolding expect
expect-back [] next s = refl
expect-back (c ∷ cs) next s = expect-hit c cs next (cs ++ s) ∙ expect-back cs next s

module _ {A B : Type 0} (r : Reader A) (next : A → Reader B) (s : List ℕ) where
  pub bind-got : (a : A) (t : List ℕ) → r s ≡ got a t → bind r next s ≡ next a t
  unfolding bind on_parsed
  bind-got a t h = rw h
