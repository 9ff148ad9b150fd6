-- Pieces appended one after the other, and that each end stays a small number. Cited by every function that writes.
-- Assumes nothing.
use Prim.Native.Nat.{ℕ, zero, suc, ◌+◌, ◌≤◌, ◌<◌}
use mathlib.Core.Logic.{⊎_elim}
use mathlib.Core.Path.{◌≡◌, refl, sym, ap, ◌∙◌}
use mathlib.Core.List.{List, [], ◌∷◌, ◌++◌, append-nil}
use native.Mathlib.Nat.{add-zero, add_assoc}
use native.Mathlib.Numerals.{add-one}
use native.Mathlib.Omega.{arith}
use lib.ListN.{length, get_or, take, length-append}
use lib.Seq.{length-sets, set_out, take-suc, length-take-le}
use Rattle.prelude.specs.Lists.{tab, joined}
use Rattle.prelude.proofs.Tests.{eq-or-ne}
use Rattle.prelude.proofs.Lists.{sets-sets, joined-append}
use Rattle.text_pieces.specs.Pieces.{Appended, Short, pieces}

pub appended-none : (text : List ℕ) (at : ℕ) → Appended [] text at text at
appended-none text at = record { text_is = refl; end_is = sym (add-zero at) }

-- one piece and then another
pub appended_then : {xs ys text : List ℕ} {at : ℕ} {text₁ : List ℕ} {end₁ : ℕ} {text₂ : List ℕ} {end₂ : ℕ}
    → Appended xs text at text₁ end₁ → Appended ys text₁ end₁ text₂ end₂ → Appended (xs ++ ys) text at text₂ end₂
appended_then {xs} {ys} {text} {at} a b =
    record {
      text_is = b.text_is ∙ rw (a.text_is, a.end_is) (sets-sets text at xs ys);
      end_is = b.end_is ∙ rw (a.end_is, length-append) (add_assoc at (length xs) (length ys));
    }

-- the same piece in other words
pub appended-is : {xs ys text : List ℕ} {at : ℕ} {text₁ : List ℕ} {end₁ : ℕ} → xs ≡ ys → Appended xs text at text₁ end₁
    → Appended ys text at text₁ end₁
appended-is e a = rw (← e) a

-- one byte past the end of the text
pub appended-out : (byte : ℕ) (text : List ℕ) (at : ℕ) → length text ≤ at → Appended (byte ∷ []) text at text (at + 1)
appended-out byte text at h = record { text_is = sym (set_out text at byte h); end_is = refl }

-- no text changes its length
pub appended-length : {piece text : List ℕ} {at : ℕ} {text' : List ℕ} {end : ℕ} → Appended piece text at text' end
    → length text' ≡ length text
appended-length {piece} {text} {at} a = rw a.text_is (length-sets text at piece)

-- ---- the first of two pieces, and the second

pub short-first : {xs : List ℕ} (ys : List ℕ) {at : ℕ} → Short (xs ++ ys) at → Short xs at
short-first {xs} ys h = record { small = omega (arith, length-append xs ys, h.small) }

pub short-rest : {xs text : List ℕ} {at : ℕ} {text₁ : List ℕ} {end₁ : ℕ} (ys : List ℕ)
    → Short (xs ++ ys) at → Appended xs text at text₁ end₁ → Short ys end₁
short-rest {xs} ys h a = record { small = omega (arith, length-append xs ys, h.small, a.end_is) }

-- ---- pieces in a loop

pub pieces_none : (f : ℕ → List ℕ) → pieces f 0 ≡ []
unfolding pieces
pieces_none f = refl

pub pieces_more : (f : ℕ → List ℕ) (i : ℕ) → pieces f (suc i) ≡ pieces f i ++ f i
unfolding pieces
pieces_more f i = joined-append (tab f i) (f i ∷ []) ∙ ap (λ (r : List ℕ). joined (tab f i) ++ r) (append-nil (f i))

pieces-grow : (f : ℕ → List ℕ) (i count : ℕ) → i ≤ count → length (pieces f i) ≤ length (pieces f count)
pieces-grow f i zero h = let e : i ≡ 0 = omega arith in rw e (omega arith)
pieces-grow f i (suc count) h = ⊎_elim at (λ ne. below (pieces-grow f i count (omega arith))) (eq-or-ne i (suc count))
  where
    at : i ≡ suc count → length (pieces f i) ≤ length (pieces f (suc count))
    at e = rw e (omega arith)

    below : length (pieces f i) ≤ length (pieces f count) → length (pieces f i) ≤ length (pieces f (suc count))
    below ih = rw (pieces_more f count, length-append) (omega arith)

pub pieces-start : (f : ℕ → List ℕ) (text : List ℕ) (at : ℕ) → Appended (pieces f 0) text at text at
pieces-start f text at = rw (pieces_none f) (appended-none text at)

-- the turn of a loop
pub pieces-turn : (f : ℕ → List ℕ) (i : ℕ) {text : List ℕ} {at : ℕ} {text₁ : List ℕ} {end₁ : ℕ} {text₂ : List ℕ}
    {end₂ : ℕ}
    → Appended (pieces f i) text at text₁ end₁ → Appended (f i) text₁ end₁ text₂ end₂
    → Appended (pieces f (i + 1)) text at text₂ end₂
pieces-turn f i a b = rw (add-one, pieces_more f i) (appended_then a b)

pub short-turn : (f : ℕ → List ℕ) (i count : ℕ) {text : List ℕ} {at : ℕ} {text₁ : List ℕ} {end₁ : ℕ}
    → i < count → Short (pieces f count) at → Appended (pieces f i) text at text₁ end₁ → Short (f i) end₁
short-turn f i count l h a =
    let grow = pieces-grow f (suc i) count (omega arith) in
    record { small = omega (arith, ap length (pieces_more f i), length-append (pieces f i) (f i), h.small, a.end_is) }

-- the invariant of such a loop: i pieces of `count` are there
pub record PiecesPut (f : ℕ → List ℕ) (count : ℕ) (text : List ℕ) (at : ℕ) (text' : List ℕ) (end i : ℕ) : Type 0 where
  pub within : i ≤ count
  pub there : Appended (pieces f i) text at text' end

pub put-none : {f : ℕ → List ℕ} {count : ℕ} {text : List ℕ} {at : ℕ} → PiecesPut f count text at text at 0
put-none {f} {count} {text} {at} = record { within = omega arith; there = pieces-start f text at }

module _ {f : ℕ → List ℕ} {count : ℕ} {text : List ℕ} {at : ℕ} {text₁ : List ℕ} {end₁ i : ℕ}
    (p : PiecesPut f count text at text₁ end₁ i) where
  pub put-short : i < count → Short (pieces f count) at → Short (f i) end₁
  put-short l h = short-turn f i count l h p.there

  pub put-more : {text₂ : List ℕ} {end₂ : ℕ} → i < count → Appended (f i) text₁ end₁ text₂ end₂
      → PiecesPut f count text at text₂ end₂ (i + 1)
  put-more l a = record { within = omega arith; there = pieces-turn f i p.there a }

  pub put-every : count ≤ i → Appended (pieces f count) text at text₁ end₁
  put-every h = let all : i ≡ count = omega (arith, p.within) in rw (← all) p.there

-- ---- the bytes of a slice in a loop

pub bytes-turn : (bytes : List ℕ) (i : ℕ) {text : List ℕ} {at : ℕ} {text₁ : List ℕ} {end₁ : ℕ} {text₂ : List ℕ}
    {end₂ : ℕ} → i < length bytes
    → Appended (take i bytes) text at text₁ end₁ → Appended (get_or bytes i 0 ∷ []) text₁ end₁ text₂ end₂
    → Appended (take (i + 1) bytes) text at text₂ end₂
bytes-turn bytes i l a b = rw (add-one, take-suc bytes i 0 l) (appended_then a b)

pub short-byte : (bytes : List ℕ) (i x : ℕ) {text : List ℕ} {at : ℕ} {text₁ : List ℕ} {end₁ : ℕ} → i < length bytes
    → Short bytes at → Appended (take i bytes) text at text₁ end₁ → Short (x ∷ []) end₁
short-byte bytes i x l h a = record { small = omega (arith, length-take-le i bytes (omega arith), h.small, a.end_is) }
