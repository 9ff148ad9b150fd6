-- Lists stored in a slice, one behind the other. Cited by every function that writes words.
--   sets-append, sets-next                a list more, an element more
--   sets-joined-next, length-joined-tab   entries of one size, one after the other
-- Assumes nothing.
use mathlib.Core.Path.{◌≡◌, ◌∙◌}
use mathlib.Core.List.{List, [], ◌∷◌, ◌++◌}
use Prim.Native.Nat.{ℕ, zero, suc, ◌+◌, ◌*◌}
use native.Mathlib.Nat.{mul-zero, mul-suc}
use native.Mathlib.Numerals.{add-one}
use native.Mathlib.Omega.{arith}
use lib.ListN.{length, set, length-append}
use lib.Seq.{sets}
use Rattle.prelude.specs.Lists.{tab, joined}
use Rattle.prelude.proofs.Tab.{length-tab}
use Rattle.prelude.proofs.Lists.{sets-sets, joined_snoc}

module _ {A : Type 0} where
  -- one list and then, where it ends, another
  pub sets-append : (xs entry : List A) (i j : ℕ) (ys : List A) → j ≡ i + length xs
      → sets (sets entry i xs) j ys ≡ sets entry i (xs ++ ys)
  sets-append xs entry i j ys e = rw e (sets-sets entry i xs ys)

  -- one element more of a list that a function gives
  pub sets-next : (f : ℕ → A) (entry out : List A) (i k : ℕ) (x : A) → out ≡ sets entry i (tab f k) → x ≡ f k
      → set out (i + k) x ≡ sets entry i (tab f (k + 1))
  sets-next f entry out i k x e h =
      rw (e, h, add-one) (sets-append (tab f k) entry i (i + k) (f k ∷ []) (omega (arith, length-tab f k)))

  -- lists that a function gives, all of one length
  module _ (f : ℕ → List A) (size : ℕ) (sized : (j : ℕ) → length (f j) ≡ size) where
    pub length-joined-tab : (k : ℕ) → length (joined (tab f k)) ≡ size * k
    length-joined-tab zero = rw mul-zero
    length-joined-tab (suc k) =
        rw (joined_snoc (tab f k) (f k), length-append (joined (tab f k)) (f k), length-joined-tab k, sized k, mul-suc)
        (omega arith)

    -- one list more
    pub sets-joined-next : (entry out out' : List A) (i k : ℕ) → out ≡ sets entry i (joined (tab f k))
        → out' ≡ sets out (i + size * k) (f k)
        → out' ≡ sets entry i (joined (tab f (k + 1)))
    sets-joined-next entry out out' i k e h =
        h ∙ rw (e, add-one, joined_snoc (tab f k) (f k))
        (sets-append (joined (tab f k)) entry i (i + size * k) (f k) (omega (arith, length-joined-tab k)))
