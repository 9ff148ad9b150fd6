-- How a loop fills the beginning of a slice with a function of the place, one element a turn.
--   Tabled                                 after i turns of n: the slice's length kept, the first i elements those of f
--   tabled-none, tabled-more, tabled-all   the start, a turn, and the end
-- Assumes nothing.
use mathlib.Core.Path.{◌≡◌, refl, ◌∙◌}
use mathlib.Core.List.{List}
use Prim.Native.Nat.{ℕ, ◌+◌, ◌≤◌, ◌<◌}
use native.Mathlib.Omega.{arith}
use lib.ListN.{length, set, length-set}
use Rattle.prelude.specs.Lists.{tab, placed}
use Rattle.prelude.proofs.Tab.{fill-next}

pub record Tabled (f : ℕ → ℕ) (n : ℕ) (entry slice : List ℕ) (i : ℕ) : Type 0 where
  pub within : i ≤ n
  pub kept : length slice ≡ length entry
  pub holds : slice ≡ placed (tab f i) entry

pub tabled-none : {f : ℕ → ℕ} {n : ℕ} {entry : List ℕ} → Tabled f n entry entry 0
tabled-none = record { within = omega arith; kept = refl; holds = refl }

module _ {f : ℕ → ℕ} {n : ℕ} {entry slice : List ℕ} {i : ℕ} (t : Tabled f n entry slice i) where
  pub tabled-more : {v : ℕ} → i < n → n ≤ length entry → v ≡ f i → Tabled f n entry (set slice i v) (i + 1)
  tabled-more {v} l r e =
      record {
        within = omega arith;
        kept = length-set slice i v ∙ t.kept;
        holds = fill-next f i entry slice v t.holds (omega arith) e;
      }

  pub tabled-all : n ≤ i → slice ≡ placed (tab f n) entry
  tabled-all l = let e : i ≡ n = omega (arith, t.within) in rw e at t.holds
