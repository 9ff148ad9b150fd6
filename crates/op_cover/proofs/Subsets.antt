-- Subsets of a mask f, as masks o with `bit_and o f ≡ o`, and the next one after a given one. Cited by the laws of the
-- walk over pairs.
--   subset-half, subset-bit, subset-from   a subset by its half and its lowest bit
--   filled                                 with the free inputs at 1 added, the subset is still seen through f
--   NextSubset, next-subset                one more than that: the carry passes the free inputs, and what is seen is
--                                          the next subset
-- Assumes nothing.
use mathlib.Core.Path.{◌≡◌, sym, ap, ◌∙◌}
use mathlib.Core.Logic.{⊎_elim}
use Prim.Native.Nat.{ℕ, zero, suc, ◌+◌, ◌-◌, ◌*◌, ◌/◌, ◌%◌, ◌^◌, min, ◌≤◌, ◌<◌}
use native.Mathlib.Nat.{pow-suc}
use native.Mathlib.Omega.{arith}
use lib.Bits.{bit_and, and_step, and_zero_r}
use Rattle.prelude.proofs.Tests.{lt-or-le}

abbrev pub Subset : ℕ → ℕ → Type 0
Subset f o = bit_and o f ≡ o

module _ (f o : ℕ) where
  steps : bit_and o f ≡ bit_and (o / 2) (f / 2) * 2 + min (o % 2) (f % 2)
  steps = and_step o f

  subset-half : Subset f o → Subset (f / 2) (o / 2)
  subset-half s = omega (arith, steps)

  subset-bit : Subset f o → o % 2 ≤ f % 2
  subset-bit s = omega (arith, steps)

  subset-from : Subset (f / 2) (o / 2) → o % 2 ≤ f % 2 → Subset f o
  subset-from s b = omega (arith, steps)

-- with the free inputs at 1 added
filled : (n f o : ℕ) → f < 2 ^ n → Subset f o → bit_and (o + 2 ^ n - suc f) f ≡ o
filled zero f o l s =
    let m : f < 1 = l in
    let z : f ≡ 0 = omega arith in
    let y : o ≡ 0 = sym s ∙ ap (bit_and o) z ∙ and_zero_r o in
    ap (bit_and (o + 2 ^ zero - suc f)) z ∙ and_zero_r (o + 2 ^ zero - suc f) ∙ sym y
filled (suc n) f o l s =
    let e : 2 ^ suc n ≡ 2 ^ n * 2 = pow-suc 2 n in
    let b : o % 2 ≤ f % 2 = subset-bit f o s in
    let half : (o + 2 ^ suc n - suc f) / 2 ≡ o / 2 + 2 ^ n - suc (f / 2) = omega arith in
    let low : min ((o + 2 ^ suc n - suc f) % 2) (f % 2) ≡ o % 2 = omega arith in
    let i : bit_and (o / 2 + 2 ^ n - suc (f / 2)) (f / 2) ≡ o / 2 =
    filled n (f / 2) (o / 2) (omega arith) (subset-half f o s) in
    let h : bit_and ((o + 2 ^ suc n - suc f) / 2) (f / 2) ≡ o / 2 = rw half i in
    steps f (o + 2 ^ suc n - suc f) ∙ omega arith

-- the next subset: no subset lies between
pub record NextSubset (f o r : ℕ) : Type 0 where
  pub above : o < r
  pub inside : Subset f r
  pub least : (x : ℕ) → o < x → Subset f x → r ≤ x

-- the lowest input is free, or fixed and at 1: the next subset of the others, with it at 0
doubled : (f o r : ℕ) → o % 2 ≡ f % 2 → NextSubset (f / 2) (o / 2) r → NextSubset f o (r * 2)
doubled f o r b i =
    let k : r * 2 / 2 ≡ r = omega arith in
    record {
      above = omega (arith, i.above);
      inside = subset-from f (r * 2) (rw k i.inside) (omega arith);
      least = λ x a t.
          ⊎_elim (λ (l : o / 2 < x / 2). let h : r ≤ x / 2 = i.least (x / 2) l (subset-half f x t) in omega arith)
          (λ (l : x / 2 ≤ o / 2). let h : x % 2 ≤ f % 2 = subset-bit f x t in omega arith) (lt-or-le (o / 2) (x / 2));
    }

pub next-subset : (n f o : ℕ) → f < 2 ^ n → Subset f o → o < f → NextSubset f o (bit_and (o + 2 ^ n - f) f)
next-subset zero f o l s m = let z : f < 1 = l in absurd (omega arith)
next-subset (suc n) f o l s m =
    let b : o % 2 ≤ f % 2 = subset-bit f o s in
    ⊎_elim carried
    (λ (g : f % 2 ≤ o % 2). passed (omega arith)
    (next-subset n (f / 2) (o / 2) (omega (arith, e)) (subset-half f o s) (omega arith)))
    (lt-or-le (o % 2) (f % 2))
  where
    e : 2 ^ suc n ≡ 2 ^ n * 2
    e = pow-suc 2 n

    -- the lowest input is fixed and at 0
    carried : o % 2 < f % 2 → NextSubset f o (bit_and (o + 2 ^ suc n - f) f)
    carried b =
        let half : (o + 2 ^ suc n - f) / 2 ≡ o / 2 + 2 ^ n - suc (f / 2) = omega (arith, e) in
        let h : bit_and ((o + 2 ^ suc n - f) / 2) (f / 2) ≡ o / 2 =
        rw half (filled n (f / 2) (o / 2) (omega (arith, e)) (subset-half f o s)) in
        let r : bit_and (o + 2 ^ suc n - f) f ≡ o + 1 = steps f (o + 2 ^ suc n - f) ∙ omega (arith, e) in
        let k : (o + 1) / 2 ≡ o / 2 = omega arith in
        rw r (record {
          above = omega arith;
          inside = subset-from f (o + 1) (rw k (subset-half f o s))
              (omega arith);
          least = λ x a t. omega arith;
        })

    passed : o % 2 ≡ f % 2 → NextSubset (f / 2) (o / 2) (bit_and (o / 2 + 2 ^ n - f / 2) (f / 2))
        → NextSubset f o (bit_and (o + 2 ^ suc n - f) f)
    passed b i =
        let half : (o + 2 ^ suc n - f) / 2 ≡ o / 2 + 2 ^ n - f / 2 = omega (arith, e) in
        let h : bit_and ((o + 2 ^ suc n - f) / 2) (f / 2) ≡ bit_and (o / 2 + 2 ^ n - f / 2) (f / 2) = rw half in
        let r : bit_and (o + 2 ^ suc n - f) f ≡ bit_and (o / 2 + 2 ^ n - f / 2) (f / 2) * 2 =
        steps f (o + 2 ^ suc n - f) ∙ omega (arith, e) in
        rw r (doubled f o (bit_and (o / 2 + 2 ^ n - f / 2) (f / 2)) b i)
