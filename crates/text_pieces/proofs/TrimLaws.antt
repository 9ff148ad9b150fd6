-- Bytes without the zeros at their end, appended from the start: the invariant of `put_trimmed`, and a law for each way
-- through it. Assumes nothing.
use Prim.Native.Nat.{ℕ, suc, ◌+◌, ◌≤◌, ◌<◌}
use mathlib.Core.Path.{◌≡◌, refl, sym, ap, ◌∙◌}
use mathlib.Core.List.{List, [], ◌∷◌, ◌++◌, append-nil, append_assoc}
use native.Mathlib.Numerals.{add-one}
use native.Mathlib.Omega.{arith}
use lib.ListN.{length, get_or, take, drop, drop_of_length-le}
use lib.Seq.{take-suc, drop-cons}
use borrow.Author.Tests.{ne_eqb}
use Rattle.prelude.specs.Lists.{trimmed, onto}
use Rattle.text_pieces.specs.Pieces.{Appended, Short}
use Rattle.text_pieces.proofs.Appending.{appended-none, appended_then, appended-is, bytes-turn, short-first}
use Rattle.text_pieces.proofs.Appending.{short-rest}

onto-some : (x : ℕ) (xs : List ℕ) → (x ≡ 0 → ⊥) → onto x xs ≡ x ∷ xs
onto-some x [] h = rw (ne_eqb x 0 h) refl
onto-some x (y ∷ ys) h = refl

-- a byte that is not 0 stays, whatever is behind it
trimmed-next : (bytes : List ℕ) (i : ℕ) → i < length bytes → (get_or bytes i 0 ≡ 0 → ⊥)
    → take i bytes ++ trimmed (drop i bytes) ≡ take (suc i) bytes ++ trimmed (drop (suc i) bytes)
trimmed-next bytes i l h =
    let x = get_or bytes i 0 in
    let rest = trimmed (drop (suc i) bytes) in
    ap (λ (r : List ℕ). take i bytes ++ r) (ap trimmed (drop-cons bytes i 0 l) ∙ onto-some x rest h)
    ∙ sym (append_assoc (take i bytes) (x ∷ []) rest)
    ∙ ap (λ (r : List ℕ). r ++ rest) (sym (take-suc bytes i 0 l))

-- the first i bytes are appended, none of which goes
pub record TrimmedPut (bytes text : List ℕ) (at : ℕ) (text' : List ℕ) (end i : ℕ) : Type 0 where
  pub within : i ≤ length bytes
  pub there : Appended (take i bytes) text at text' end
  pub left : trimmed bytes ≡ take i bytes ++ trimmed (drop i bytes)

pub trim-none : (bytes text : List ℕ) (at : ℕ) → TrimmedPut bytes text at text at 0
trim-none bytes text at = record { within = omega arith; there = appended-none text at; left = refl }

module _ {bytes text : List ℕ} {at : ℕ} {text₁ : List ℕ} {end₁ i : ℕ} (p : TrimmedPut bytes text at text₁ end₁ i) where
  -- one byte more
  pub trim-short : i < length bytes → (get_or bytes i 0 ≡ 0 → ⊥) → Short (trimmed bytes) at
      → Short (get_or bytes i 0 ∷ []) end₁
  trim-short l h s =
      let all : Short (take (suc i) bytes ++ trimmed (drop (suc i) bytes)) at =
      rw (p.left ∙ trimmed-next bytes i l h) at s in
      let first : Short (take (suc i) bytes) at = short-first (trimmed (drop (suc i) bytes)) all in
      let next : Short (take i bytes ++ (get_or bytes i 0 ∷ [])) at = rw (take-suc bytes i 0 l) at first in
      short-rest _ next p.there

  pub trim-more : {text₂ : List ℕ} {end₂ : ℕ} → i < length bytes → (get_or bytes i 0 ≡ 0 → ⊥)
      → Appended (get_or bytes i 0 ∷ []) text₁ end₁ text₂ end₂
      → TrimmedPut bytes text at text₂ end₂ (i + 1)
  trim-more l h a =
      record {
        within = omega arith;
        there = bytes-turn bytes i l p.there a;
        left = rw (add-one i) (p.left ∙ trimmed-next bytes i l h);
      }

  -- a zero: what is behind it is trimmed from the end
  pub rest-short : Short (trimmed bytes) at → Short (trimmed (drop i bytes)) end₁
  rest-short s = short-rest _ (rw p.left at s) p.there

  pub rest_put : {text₂ : List ℕ} {end₂ : ℕ} → Appended (trimmed (drop i bytes)) text₁ end₁ text₂ end₂
      → Appended (trimmed bytes) text at text₂ end₂
  rest_put a = rw p.left (appended_then p.there a)

  -- no zero
  pub trim-every : length bytes ≤ i → Appended (trimmed bytes) text at text₁ end₁
  trim-every h =
      let none : trimmed (drop i bytes) ≡ [] = ap trimmed (drop_of_length-le bytes h) in
      appended-is (sym (p.left ∙ ap (λ (r : List ℕ). take i bytes ++ r) none ∙ append-nil (take i bytes))) p.there
