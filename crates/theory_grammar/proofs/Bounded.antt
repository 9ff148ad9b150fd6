-- A reader that takes its bound from the text is good, where every reader of a fixed bound is, since any bound that is
-- large enough gives one result. Cited for the pairs of a never line. Assumes nothing.
--   good-bounded: the law
use Prim.Native.Nat.{ℕ, suc, ◌+◌, ◌≤◌}
use mathlib.Core.Path.{◌≡◌, ap, ◌∙◌}
use mathlib.Core.Logic.{inl, inr}
use mathlib.Core.Bool.{true}
use mathlib.Core.List.{List, [], ◌∷◌}
use native.Mathlib.Omega.{arith}
use lib.ListN.{length}
use Rattle.netlist.specs.Parse.{Reader}
use Rattle.theory_grammar.proofs.Refusals.{accepted, Fails, Good}
use Rattle.theory_grammar.proofs.FirstBad.{fails-within}

module _ {T : Type 0} where
  -- what fails with every bound that is large enough; `before` bytes were read already
  fails-bounded : (before : ℕ) (bounded : ℕ → Reader T) (r : Reader T)
      → ((n : ℕ) (s : List ℕ) → length s + before ≤ n → bounded n s ≡ r s)
      → ((n : ℕ) (s : List ℕ) → accepted (bounded n s) ≡ true → accepted (r s) ≡ true)
      → (s : List ℕ) (left : ℕ) → ((n : ℕ) → length s + before ≤ n → Fails (bounded n) s left) → Fails r s left
  fails-bounded before bounded r same more [] left f = f before (omega arith)
  fails-bounded before bounded r same more (c ∷ s) left f =
      go (f (suc (length s) + before) (omega arith))
      (fails-bounded (suc before) (λ n w. bounded n (c ∷ w)) (λ w. r (c ∷ w)) (λ n w m. same n (c ∷ w) (omega arith))
      (λ n w. more n (c ∷ w)) s left)
    where
      -- the byte is the bad one: with a larger bound too
      bad : left ≡ suc (length s) → (w : List ℕ) → accepted (r (c ∷ w)) ≡ true → ⊥
      bad e w h = at (f n (omega arith))
        where
          n : ℕ
          n = suc (length s) + suc (length w) + before

          at : Fails (bounded n) (c ∷ s) left → ⊥
          at (inl g) = g.1 w (ap accepted (same n (c ∷ w) (omega arith)) ∙ h)
          at (inr g) = let m = fails-within (λ w. bounded n (c ∷ w)) s left g.1 in omega arith

      -- the byte is not the bad one: with a larger bound neither
      behind : left ≤ length s → (n : ℕ) → length s + suc before ≤ n → Fails (λ w. bounded n (c ∷ w)) s left
      behind le n m = at (f n (omega arith))
        where
          at : Fails (bounded n) (c ∷ s) left → Fails (λ w. bounded n (c ∷ w)) s left
          at (inl g) = absurd (omega (arith, g.0))
          at (inr g) = g.1

      go : Fails (bounded (suc (length s) + before)) (c ∷ s) left
          → (((n : ℕ) → length s + suc before ≤ n → Fails (λ w. bounded n (c ∷ w)) s left)
          → Fails (λ w. r (c ∷ w)) s left)
          → Fails r (c ∷ s) left
      go (inl g) rec = inl (g.0, bad g.0)
      go (inr g) rec =
          let le = fails-within (λ w. bounded (suc (length s) + before) (c ∷ w)) s left g.1 in
          inr ((g.0.0, more _ _ g.0.1), rec (behind le))

  pub good-bounded : (bounded : ℕ → Reader T) (r : Reader T) → ((n : ℕ) → Good (bounded n))
      → ((n : ℕ) (s : List ℕ) → length s ≤ n → bounded n s ≡ r s)
      → ((n : ℕ) (s : List ℕ) → accepted (bounded n s) ≡ true → accepted (r s) ≡ true)
      → Good r
  good-bounded bounded r good same more = record {
    half = record {
      fails = λ s left e.
          fails-bounded 0 bounded r (λ n s m. same n s (omega arith)) more s left
          (λ n m. (good n).half.fails s left (same n s (omega arith) ∙ e));
    };
    sample = (good 0).sample;
    accepts = more 0 (good 0).sample (good 0).accepts;
  }
