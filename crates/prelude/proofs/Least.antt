-- The lowest number below a bound that passes a test: what is found, and that nothing else is.
--   least-le, least-below, least_at   within the bound; none below passes; it passes if it is below the bound
--   least-is, least_first             what has these properties is it; it is at most what passes
-- Assumes nothing.
use mathlib.Core.Path.{◌≡◌, refl}
use mathlib.Core.Logic.{◌⊎◌, inl, inr, ⊎_elim}
use mathlib.Core.Bool.{Bool, true, false, cond}
use Prim.Native.Nat.{ℕ, zero, suc, ◌+◌, ◌≤◌, ◌<◌}
use native.Mathlib.Nat.{le_antisymm}
use native.Mathlib.Omega.{arith}
use Rattle.prelude.specs.Lists.{least_from, least}
use Rattle.prelude.proofs.Tests.{eq-or-ne, lt-or-le, not-both}

-- what a search from k over n numbers finds
record Found (p : ℕ → Bool) (k n r : ℕ) : Type 0 where
  from : k ≤ r
  to : r ≤ k + n
  before : (i : ℕ) → k ≤ i → i < r → p i ≡ false
  at : r < k + n → p r ≡ true

found : (p : ℕ → Bool) (k n : ℕ) → Found p k n (least_from p k n)
found p k zero =
    record {
      from = omega arith;
      to = omega arith;
      before = λ i a b. absurd (omega arith);
      at = λ l. absurd (omega arith);
    }
found p k (suc n) = go (p k) refl (found p (suc k) n)
  where
    go : (b : Bool) → p k ≡ b → Found p (suc k) n (least_from p (suc k) n)
        → Found p k (suc n) (cond b k (least_from p (suc k) n))
    go true e f = record { from = omega arith; to = omega arith; before = λ i a l. absurd (omega arith); at = λ l. e }
    go false e f =
        let lo : suc k ≤ least_from p (suc k) n = f.from in
        let hi : least_from p (suc k) n ≤ suc k + n = f.to in
        record {
          from = omega arith;
          to = omega arith;
          before =
              λ i a l. ⊎_elim (λ (s : i ≡ k). rw s e) (λ (s : i ≡ k → ⊥). f.before i (omega arith) l) (eq-or-ne i k);
          at = λ l. f.at (omega arith);
        }

module _ (p : ℕ → Bool) (n : ℕ) where
  pub least-le : least p n ≤ n
  least-le = let h : least p n ≤ 0 + n = (found p 0 n).to in omega arith

  -- nothing below it passes
  pub least-below : (i : ℕ) → i < least p n → p i ≡ false
  least-below i l = (found p 0 n).before i (omega arith) l

  -- the least number passes, if it is below the bound
  pub least_at : least p n < n → p (least p n) ≡ true
  least_at l = (found p 0 n).at (omega arith)

  -- nothing else is so
  pub least-is : (r : ℕ) → r ≤ n → ((i : ℕ) → i < r → p i ≡ false) → (r < n → p r ≡ true) → least p n ≡ r
  least-is r h before at =
      ⊎_elim lower (λ ge. ⊎_elim higher (λ le. le_antisymm le ge) (lt-or-le r (least p n))) (lt-or-le (least p n) r)
    where
      lower : least p n < r → least p n ≡ r
      lower l = not-both (least_at (omega arith)) (before (least p n) l)

      higher : r < least p n → least p n ≡ r
      higher l = let b : least p n ≤ n = least-le in not-both (at (omega arith)) (least-below r l)

  -- one that passes is not below it
  pub least_first : (i : ℕ) → p i ≡ true → least p n ≤ i ⊎ (n ≤ i)
  least_first i h = ⊎_elim (λ l. inr (⊎_elim (λ m. not-both h (least-below i l)) (λ m. m) (lt-or-le i n))) inl
      (lt-or-le i (least p n))
