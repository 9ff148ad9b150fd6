-- Rules for what a reader answers, one for each way to make a reader: `Gives P r s` says that whatever r reads from s
-- has the property P of value and rest. Cited by the proof that what is parsed is printed back. Assumes nothing.
--   Gives: what a reader reads has a property
--   gives-pure, gives-stop, gives-if_next, gives-is, gives-expect, gives-bind: one law for each way to make a reader
use Prim.Native.Nat.{ℕ}
use mathlib.Core.Path.{◌≡◌, refl}
use mathlib.Core.Bool.{Bool, true, false}
use mathlib.Core.List.{List, [], ◌∷◌, ◌++◌}
use native.Mathlib.Omega.{arith}
use lib.Dec.{eqb}
use borrow.Author.Tests.{eqb-true}
use Rattle.netlist.specs.Parse.{Parsed, got, stuck, Reader, pure, stop, on_test, if_next, expect, on_parsed, bind}

pub record Gives {A : Type 0} (P : A → List ℕ → Type 0) (p : Parsed A) : Type 0 where
  pub holds : (a : A) (rest : List ℕ) → p ≡ got a rest → P a rest

module _ {A : Type 0} {P : A → List ℕ → Type 0} where
  pub gives-got : (a : A) (s : List ℕ) → P a s → Gives P (got a s)
  gives-got a s h = record { holds = λ b rest e. let f : a ≡ b = cc in let g : s ≡ rest = cc in rw (← f, ← g) h }

  pub gives-stuck : (n : ℕ) → Gives P (stuck n)
  gives-stuck n = record { holds = λ b rest e. let z : ◌≡◌ {A = ℕ} 0 1 = cc in absurd (omega arith) }

  pub gives-pure : (a : A) (s : List ℕ) → P a s → Gives P (pure a s)
  unfolding pure
  gives-pure = gives-got

  pub gives-stop : (s : List ℕ) → Gives P (stop s)
  unfolding stop
  gives-stop s = gives-stuck _

  -- the first reader at each byte that passes the test, the second at every text
  pub gives-if_next : (test : ℕ → Bool) (first : ℕ → Reader A) (second : Reader A) (s : List ℕ)
      → ((c : ℕ) (t : List ℕ) → c ∷ t ≡ s → test c ≡ true → Gives P (first c t))
      → Gives P (second s)
      → Gives P (if_next test first second s)
  unfolding if_next on_test
  gives-if_next test first second [] hit miss = miss
  gives-if_next test first second (c ∷ t) hit miss = go (test c) refl
    where
      go : (b : Bool) → test c ≡ b → Gives P (on_test b first second c t)
      go true q = hit c t refl q
      go false q = miss

  -- a choice by whether the next byte is c
  pub gives-is : (c : ℕ) (first : ℕ → Reader A) (second : Reader A) (s : List ℕ)
      → ((t : List ℕ) → c ∷ t ≡ s → Gives P (first c t))
      → Gives P (second s)
      → Gives P (if_next (eqb c) first second s)
  gives-is c first second s hit =
      gives-if_next (eqb c) first second s λ d t e q. let w : c ≡ d = eqb-true c d q in rw (← w) (hit t (cc))

  pub gives-expect : (cs : List ℕ) (next : Reader A) (s : List ℕ)
      → ((t : List ℕ) → cs ++ t ≡ s → Gives P (next t))
      → Gives P (expect cs next s)
  unfolding expect
  gives-expect [] next s h = h s refl
  gives-expect (c ∷ cs) next s h =
      gives-is c (λ _. expect cs next) stop s (λ t e. gives-expect cs next t (λ u f. h u (cc))) (gives-stop s)

module _ {A B : Type 0} {P : A → List ℕ → Type 0} {Q : B → List ℕ → Type 0} where
  pub gives-bind : (r : Reader A) (next : A → Reader B) (s : List ℕ)
      → Gives P (r s)
      → ((a : A) (t : List ℕ) → P a t → Gives Q (next a t))
      → Gives Q (bind r next s)
  unfolding bind on_parsed
  gives-bind r next s h k = go (r s) h
    where
      go : (p : Parsed A) → Gives P p → Gives Q (on_parsed next p)
      go (got a t) g = k a t (g.holds a t refl)
      go (stuck n) g = gives-stuck n
