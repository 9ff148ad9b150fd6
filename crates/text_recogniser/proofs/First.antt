-- A reader that goes by the next byte, where that is read with 0 past the end: which way it goes. Assumes nothing.
use mathlib.Core.Path.{◌≡◌, refl, sym, ◌∙◌}
use mathlib.Core.Bool.{Bool, true, false}
use mathlib.Core.List.{List, [], ◌∷◌}
use Prim.Native.Nat.{ℕ, ◌<◌}
use native.Mathlib.Omega.{arith}
use lib.ListN.{length, drop, get_or}
use lib.Dec.{eqb}
use borrow.Author.Tests.{eq-eqb, ne_eqb}
use Rattle.prelude.proofs.Tests.{not-both}
use Rattle.netlist.specs.Parse.{Reader, on_test, if_next}

-- where a byte passes a test that 0 does not pass, there is a byte
pub there : (test : ℕ → Bool) (s : List ℕ) → test 0 ≡ false → test (get_or s 0 0) ≡ true → 0 < length s
there test [] z h = not-both h z
there test (c ∷ s) z h = omega arith

module _ {A : Type 0} (first : ℕ → Reader A) (second : Reader A) where
  pub if-taken : (test : ℕ → Bool) (s : List ℕ) → test 0 ≡ false → test (get_or s 0 0) ≡ true
      → if_next test first second s ≡ first (get_or s 0 0) (drop 1 s)
  unfolding if_next on_test
  if-taken test [] z h = not-both h z
  if-taken test (c ∷ s) z h = rw h

  pub if-left : (test : ℕ → Bool) (s : List ℕ) → test (get_or s 0 0) ≡ false → if_next test first second s ≡ second s
  unfolding if_next on_test
  if-left test [] h = refl
  if-left test (c ∷ s) h = rw h

  -- the same, where the byte is compared with another
  pub byte-taken : (s : List ℕ) {b : ℕ} (c : ℕ) → b ≡ get_or s 0 0 → b ≡ c → 0 < c
      → if_next (eqb c) first second s ≡ first (get_or s 0 0) (drop 1 s)
  byte-taken s c e f h = if-taken (eqb c) s (ne_eqb c 0 (λ z. omega arith)) (eq-eqb c (get_or s 0 0) (sym f ∙ e))

  pub byte_left : (s : List ℕ) {b : ℕ} (c : ℕ) → b ≡ get_or s 0 0 → (b ≡ c → ⊥) → if_next (eqb c) first second s ≡ second s
  byte_left s c e f = if-left (eqb c) s (ne_eqb c (get_or s 0 0) (λ z. f (e ∙ sym z)))
