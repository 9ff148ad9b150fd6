-- Tests that tell a place, and the lesser of two. Every such condition has the place as its detail.
--   repeat-tells: the place is the detail
--   other-alone, one-alone, one-first, other-first: the test with the lesser place
-- Assumes nothing.
use Prim.Native.Nat.{ℕ, ◌≤◌, ◌<◌}
use mathlib.Core.Path.{◌≡◌, refl, sym, ap, ◌∙◌}
use mathlib.Core.Option.{Option, none, some}
use native.Mathlib.Omega.{arith}
use borrow.Author.Tests.{le-leb, lt-leb}
use Rattle.netlist.specs.declared.Refusal.{Refusal}
use Rattle.netlist.specs.declared.Refusal.TheVariants.{DuplicateDeclaration}
use Rattle.words_refusals.specs.Tests.{Test}
use Rattle.std.specs.declared.result.Result.TheVariants.{Err}
use Rattle.netlist.specs.Reading.{lesser}
use Rattle.netlist.specs.Answers.{refusal_detail}
use Rattle.words_refusals.specs.Tests.{test_at}

-- the way behind `let Err(why) = t else`
abbrev IsPassed : Test → Type 0
IsPassed t = (r : Refusal) → t ≡ Err r → ⊥

pub repeat-tells : (q : ℕ) → refusal_detail (DuplicateDeclaration q) ≡ q
unfolding refusal_detail
repeat-tells q = refl

module _ (why : ℕ → Refusal) (tells : (q : ℕ) → refusal_detail (why q) ≡ q) where
  none_told : (p : Option ℕ) {t : Test} → t ≡ test_at p why → IsPassed t → p ≡ none
  unfolding test_at
  none_told none e k = refl
  none_told (some q) e k = absurd (k (why q) e)

  some-told : (p : Option ℕ) {t : Test} {r : Refusal} → t ≡ test_at p why → t ≡ Err r → p ≡ some (refusal_detail r)
  unfolding test_at
  some-told none e f = let z : ◌≡◌ {A = ℕ} 0 1 = cc in absurd (omega arith)
  some-told (some q) {t} {r} e f = let z : why q ≡ r = cc in ap some (sym (tells q) ∙ ap refusal_detail z)

  why-told : (p : Option ℕ) {t : Test} {r : Refusal} → t ≡ test_at p why → t ≡ Err r → r ≡ why (refusal_detail r)
  unfolding test_at
  why-told none e f = let z : ◌≡◌ {A = ℕ} 0 1 = cc in absurd (omega arith)
  why-told (some q) {t} {r} e f = let z : why q ≡ r = cc in sym z ∙ ap why (sym (tells q) ∙ ap refusal_detail z)

  -- ---- the lesser

  module _ {one other : Test} where
    pub other-alone : IsPassed one → (p q : Option ℕ) → one ≡ test_at p why → other ≡ test_at q why
        → other ≡ test_at (lesser p q) why
    unfolding lesser
    other-alone k p q e f = rw (none_told p e k) f

    pub one-alone : {r : Refusal} → one ≡ Err r → IsPassed other → (p q : Option ℕ) → one ≡ test_at p why
        → other ≡ test_at q why
        → Err r ≡ test_at (lesser p q) why
    unfolding lesser test_at
    one-alone d k p q e f = rw (some-told p e d, none_told q f k) (ap Err (why-told p e d))

    module _ {r s : Refusal} {a b : ℕ} (first : one ≡ Err r) (second : other ≡ Err s) (x : a ≡ refusal_detail r)
        (y : b ≡ refusal_detail s) where
      pub one-first : a ≤ b → (p q : Option ℕ) → one ≡ test_at p why → other ≡ test_at q why
          → Err r ≡ test_at (lesser p q) why
      unfolding lesser test_at
      one-first l p q e f =
          rw (some-told p e first, some-told q f second, ← x, ← y, le-leb a b l) (ap Err (why-told p e first) ∙ rw x)

      pub other-first : b < a → (p q : Option ℕ) → one ≡ test_at p why → other ≡ test_at q why
          → Err s ≡ test_at (lesser p q) why
      unfolding lesser test_at
      other-first l p q e f =
          rw (
            some-told p e first,
            some-told q f second,
            ← x,
            ← y,
            lt-leb a b l,
          ) (ap Err (why-told q f second) ∙ rw y)
