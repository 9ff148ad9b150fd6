-- The decimal digits of a number: one, or those of a tenth and one more. A smaller number has no more of them. Cited by
-- `put_decimal`, `put_number` and `put_gate_name`. Assumes nothing.
use Prim.Native.Nat.{ℕ, zero, suc, ◌+◌, ◌/◌, ◌%◌, ◌≤◌, ◌<◌}
use mathlib.Core.Path.{◌≡◌, refl, ap, ◌∙◌}
use mathlib.Core.Logic.{⊎_elim}
use mathlib.Core.List.{List, [], ◌∷◌, ◌++◌}
use native.Mathlib.Nat.{not-suc-le-zero}
use native.Mathlib.Omega.{arith}
use lib.ListN.{length, length-append}
use borrow.Author.Tests.{lt-ltb, le-ltb}
use Rattle.prelude.proofs.Tests.{lt-or-le}
use Rattle.netlist.specs.Writing.{digits, decimal}
use Rattle.text_pieces.specs.Pieces.{Appended, Short, digit_at}
use Rattle.text_pieces.proofs.Appending.{short-rest}

-- how many digits are allowed plays no part
digits-enough : (most more v : ℕ) → v < most → v < more → digits most v ≡ digits more v
unfolding digits
digits-enough zero more v l m = absurd (not-suc-le-zero l)
digits-enough (suc most) zero v l m = absurd (not-suc-le-zero m)
digits-enough (suc most) (suc more) v l m =
    ⊎_elim (λ few. rw (lt-ltb v 10 few) refl)
    (λ many. rw (le-ltb v 10 many)
    (ap (λ (r : List ℕ). r ++ ((48 + v % 10) ∷ [])) (digits-enough most more (v / 10) (omega arith) (omega arith))))
    (lt-or-le v 10)

pub decimal-one : (v : ℕ) → v < 10 → decimal v ≡ (48 + v) ∷ []
unfolding decimal digits
decimal-one v l = rw (lt-ltb v 10 l) refl

pub decimal-more : (v : ℕ) → 10 ≤ v → decimal v ≡ decimal (v / 10) ++ ((48 + v % 10) ∷ [])
unfolding decimal digits
decimal-more v l =
    rw (le-ltb v 10 l)
    (ap (λ (r : List ℕ). r ++ ((48 + v % 10) ∷ []))
    (digits-enough v (suc (v / 10)) (v / 10) (omega arith) (omega arith)))

decimal-length : (v : ℕ) → 10 ≤ v → length (decimal v) ≡ length (decimal (v / 10)) + 1
decimal-length v l = rw (decimal-more v l) (length-append (decimal (v / 10)) ((48 + v % 10) ∷ []))

digits-grow : (most v w : ℕ) → w < most → v ≤ w → length (decimal v) ≤ length (decimal w)
digits-grow zero v w l h = absurd (not-suc-le-zero l)
digits-grow (suc most) v w l h =
    ⊎_elim one (λ u. more u (digits-grow most (v / 10) (w / 10) (omega arith) (omega arith))) (lt-or-le v 10)
  where
    few : w < 10 → 1 ≤ length (decimal w)
    few u = rw (decimal-one w u) (omega arith)

    one : v < 10 → length (decimal v) ≤ length (decimal w)
    one u = rw (decimal-one v u) (⊎_elim few (λ many. omega (arith, decimal-length w many)) (lt-or-le w 10))

    more : 10 ≤ v → length (decimal (v / 10)) ≤ length (decimal (w / 10)) → length (decimal v) ≤ length (decimal w)
    more u ih = omega (arith, ih, decimal-length v u, decimal-length w (omega arith))

pub short-smaller : {v w at : ℕ} → v ≤ w → Short (decimal w) at → Short (decimal v) at
short-smaller {v} {w} l h = record { small = omega (arith, digits-grow (suc w) v w (omega arith) l, h.small) }

-- ---- up to four digits, each by its unit

pub digit-none : (v unit : ℕ) → v < unit → digit_at v unit ≡ []
unfolding digit_at
digit-none v unit l = rw (lt-ltb v unit l) refl

pub digit-some : (v unit : ℕ) → unit ≤ v → digit_at v unit ≡ (48 + v / unit % 10) ∷ []
unfolding digit_at
digit-some v unit l = rw (le-ltb v unit l) refl

two : (v : ℕ) → 10 ≤ v → v < 100 → decimal v ≡ (48 + v / 10 % 10) ∷ (48 + v % 10) ∷ []
two v a b =
    let e : v / 10 ≡ v / 10 % 10 = omega arith in
    decimal-more v a ∙ rw (decimal-one (v / 10) (omega arith)) (ap (λ (n : ℕ). (48 + n) ∷ (48 + v % 10) ∷ []) e)

three : (v : ℕ) → 100 ≤ v → v < 1000 → decimal v ≡ (48 + v / 100 % 10) ∷ (48 + v / 10 % 10) ∷ (48 + v % 10) ∷ []
three v a b =
    let e : v / 10 / 10 % 10 ≡ v / 100 % 10 = omega arith in
    decimal-more v (omega arith)
    ∙ ap (λ (r : List ℕ). r ++ ((48 + v % 10) ∷ [])) (two (v / 10) (omega arith) (omega arith))
    ∙ ap (λ (n : ℕ). (48 + n) ∷ (48 + v / 10 % 10) ∷ (48 + v % 10) ∷ []) e

four : (v : ℕ) → 1000 ≤ v → v < 10000
    → decimal v ≡ (48 + v / 1000 % 10) ∷ (48 + v / 100 % 10) ∷ (48 + v / 10 % 10) ∷ (48 + v % 10) ∷ []
four v a b =
    let e : v / 10 / 100 % 10 ≡ v / 1000 % 10 = omega arith in
    let f : v / 10 / 10 % 10 ≡ v / 100 % 10 = omega arith in
    decimal-more v (omega arith)
    ∙ ap (λ (r : List ℕ). r ++ ((48 + v % 10) ∷ [])) (three (v / 10) (omega arith) (omega arith))
    ∙ ap (λ (n : ℕ). (48 + n) ∷ (48 + v / 10 / 10 % 10) ∷ (48 + v / 10 % 10) ∷ (48 + v % 10) ∷ []) e
    ∙ ap (λ (n : ℕ). (48 + v / 1000 % 10) ∷ (48 + n) ∷ (48 + v / 10 % 10) ∷ (48 + v % 10) ∷ []) f

pub decimal-four : (v : ℕ) → v < 10000
    → decimal v ≡ digit_at v 1000 ++ (digit_at v 100 ++ (digit_at v 10 ++ ((48 + v % 10) ∷ [])))
decimal-four v l =
    ⊎_elim
    (λ (a : v < 100).
    rw (digit-none v 1000 (omega arith), digit-none v 100 a)
    (⊎_elim
    (λ (b : v < 10).
    let e : v ≡ v % 10 = omega arith in rw (digit-none v 10 b) (decimal-one v b ∙ ap (λ (n : ℕ). (48 + n) ∷ []) e))
    (λ (b : 10 ≤ v). rw (digit-some v 10 b) (two v b a)) (lt-or-le v 10)))
    (λ (a : 100 ≤ v).
    rw (digit-some v 100 a, digit-some v 10 (omega arith))
    (⊎_elim (λ (b : v < 1000). rw (digit-none v 1000 b) (three v a b))
    (λ (b : 1000 ≤ v). rw (digit-some v 1000 b) (four v b l)) (lt-or-le v 1000)))
    (lt-or-le v 100)

-- room for all of them, for those behind the thousands, and for those behind the hundreds
module _ (v : ℕ) {at : ℕ} (few : v < 10000) (short : Short (decimal v) at) where
  pub four-short : Short (digit_at v 1000 ++ (digit_at v 100 ++ (digit_at v 10 ++ ((48 + v % 10) ∷ [])))) at
  four-short = rw (decimal-four v few) at short

  module _ {text text₁ : List ℕ} {end₁ : ℕ} (first : Appended (digit_at v 1000) text at text₁ end₁) where
    pub three-short : Short (digit_at v 100 ++ (digit_at v 10 ++ ((48 + v % 10) ∷ []))) end₁
    three-short = short-rest _ four-short first

    pub two-short : {text₂ : List ℕ} {end₂ : ℕ} → Appended (digit_at v 100) text₁ end₁ text₂ end₂
        → Short (digit_at v 10 ++ ((48 + v % 10) ∷ [])) end₂
    two-short second = short-rest _ three-short second
