-- How many of 0 .. n - 1 pass a test: by comparison of two tests, and as the length of what is kept.
--   count_below-ext, -mono, -less       two tests compared
--   count_below-all, -le, -full, -one   all pass; at most n; n pass, so all do; one passes more
--   length-keep                        the length of what is kept
-- Assumes nothing.
use Prim.Native.Nat.{ℕ, zero, suc, ◌+◌, ◌≤◌, ◌<◌}
use mathlib.Core.Path.{◌≡◌, refl, sym, ap, ◌∙◌}
use mathlib.Core.Logic.{◌⊎◌, inl, inr, ⊎_elim}
use mathlib.Core.Bool.{Bool, true, false, cond}
use mathlib.Core.List.{[], ◌∷◌}
use native.Mathlib.Omega.{arith}
use lib.ListN.{length, length-append}
use Rattle.prelude.specs.Lists.{keep, up_to, count_below}
use Rattle.prelude.proofs.Tests.{bool_cases, lt-or-le}
use Rattle.prelude.proofs.Lists.{keep_append}

bit-mono : (a b : Bool) → (a ≡ true → b ≡ true) → cond {A = ℕ} a 1 0 ≤ cond b 1 0
bit-mono true b f = rw (f refl) (omega arith)
bit-mono false b f = omega arith

-- two tests that agree below n count the same
pub count_below-ext : (p q : ℕ → Bool) (n : ℕ) → ((k : ℕ) → k < n → p k ≡ q k) → count_below p n ≡ count_below q n
count_below-ext p q zero h = refl
count_below-ext p q (suc n) h =
    let e : count_below p n ≡ count_below q n = count_below-ext p q n (λ k l. h k (omega arith)) in
    let e' : p n ≡ q n = h n (omega arith) in
    rw (e, e')

-- where each that passes one test passes the other, at most as many do
pub count_below-mono : (p q : ℕ → Bool) (n : ℕ) → ((k : ℕ) → k < n → p k ≡ true → q k ≡ true)
    → count_below p n ≤ count_below q n
count_below-mono p q zero f = omega arith
count_below-mono p q (suc n) f =
    let r = count_below-mono p q n (λ k h. f k (omega arith)) in
    let s = bit-mono (p n) (q n) (f n (omega arith)) in
    omega arith

-- fewer numbers pass a test that implies another, where one of them passes only the other
pub count_below-less : (p q : ℕ → Bool) (n : ℕ) → ((k : ℕ) → k < n → p k ≡ true → q k ≡ true) → (k : ℕ) → k < n
    → p k ≡ false → q k ≡ true
    → count_below p n < count_below q n
count_below-less p q zero f k h e g = absurd (omega arith)
count_below-less p q (suc n) f k h e g =
    go (lt-or-le k n) (count_below-less p q n (λ i l. f i (omega arith)) k)
  where
    go : (k < n) ⊎ (n ≤ k) → (k < n → p k ≡ false → q k ≡ true → count_below p n < count_below q n)
        → count_below p (suc n) < count_below q (suc n)
    go (inl l) r =
        let s = bit-mono (p n) (q n) (f n (omega arith)) in
        let u = r l e g in
        omega arith
    go (inr l) r =
        let s : k ≡ n = omega arith in
        let u = count_below-mono p q n (λ i h. f i (omega arith)) in
        rw (ap p (sym s) ∙ e, ap q (sym s) ∙ g) (omega arith)

-- where all pass, all are counted
pub count_below-all : (p : ℕ → Bool) (n : ℕ) → ((k : ℕ) → k < n → p k ≡ true) → count_below p n ≡ n
count_below-all p zero f = refl
count_below-all p (suc n) f =
    let r = count_below-all p n (λ k h. f k (omega arith)) in
    rw (f n (omega arith)) (omega arith)

-- at most all
pub count_below-le : (p : ℕ → Bool) (n : ℕ) → count_below p n ≤ n
count_below-le p n =
    let r = count_below-mono p (λ _. true) n (λ k h e. refl) in
    let s = count_below-all (λ _. true) n (λ k h. refl) in
    omega arith

-- where all are counted, all pass
pub count_below-full : (p : ℕ → Bool) (n : ℕ) → n ≤ count_below p n → (k : ℕ) → k < n → p k ≡ true
count_below-full p n h k l = ⊎_elim (λ e. e) (λ e. absurd (no' e)) (bool_cases (p k))
  where
    no' : p k ≡ false → ⊥
    no' e =
        let r = count_below-less p (λ _. true) n (λ i h e. refl) k l e refl in
        let s = count_below-all (λ _. true) n (λ k h. refl) in
        omega arith

-- one more passes
pub count_below-one : (p q : ℕ → Bool) (n x : ℕ) → x < n → p x ≡ false → q x ≡ true → ((k : ℕ) → (k ≡ x → ⊥) → q k ≡ p k)
    → count_below q n ≡ suc (count_below p n)
count_below-one p q zero x h e g f = absurd (omega arith)
count_below-one p q (suc n) x h e g f =
    go (lt-or-le x n) (λ l. count_below-one p q n x l e g f)
  where
    go : (x < n) ⊎ (n ≤ x) → (x < n → count_below q n ≡ suc (count_below p n))
        → count_below q (suc n) ≡ suc (count_below p (suc n))
    go (inl l) r =
        let u = r l in
        let s : q n ≡ p n = f n (omega arith) in
        rw s (omega arith)
    go (inr l) r =
        let s : x ≡ n = omega arith in
        let u = count_below-ext q p n (λ k m. f k (λ d. omega arith)) in
        rw (ap p (sym s) ∙ e, ap q (sym s) ∙ g) (omega arith)

-- as many are kept as pass
pub length-keep : (p : ℕ → Bool) (n : ℕ) → length (keep p (up_to n)) ≡ count_below p n
length-keep p zero = refl
length-keep p (suc n) =
    ap length (keep_append p (up_to n) (n ∷ []))
    ∙ length-append (keep p (up_to n)) (keep p (n ∷ []))
    ∙ rw (length-keep p n) (ap (λ (k : ℕ). count_below p n + k) (go (p n)))
  where
    go : (t : Bool) → length (cond t (n ∷ []) []) ≡ cond t 1 0
    go true = refl
    go false = refl
