-- `text_pairs::told::fill_given` meets its contract: one input a turn. Assumes nothing.
use native.Mathlib.Omega.{arith}
use Prim.Native.Nat.{ℕ, ◌<◌}
use mathlib.Core.Path.{◌≡◌, sym, ◌∙◌}
use mathlib.Core.Bool.{cond}
use lib.Dec.{ltb}
use borrow.Author.Tests.{lt-ltb, le-ltb}
use Rattle.prelude.proofs.Tabled.{tabled-none, tabled-more, tabled-all}
use Rattle.text_pairs.specs.PairBytes.{given_code, input_code}
use Rattle.text_pairs.proofs.told.fill_given.Goals.{in-Some, in-None}
use Rattle.text_pairs.proofs.told.fill_given.Goals as goal

-- what stands for a number that is not below the bound
not-there : (k n x y : ℕ) → (k < n → ⊥) → cond (ltb k n) x y ≡ y
not-there k n x y none = rw (le-ltb k n (omega (arith, none)))

pub loop-j-init : goal.loop-j-init
loop-j-init g c = λ codes h. tabled-none

pub loop-j-preserved : goal.loop-j-preserved
unfolding input_code given_code
loop-j-preserved g c = λ codes h.
    tabled-more (c.loop-j.invariant codes h) (omega arith) (omega arith) (elim c.match-find.branch [
      | in-Some w ↦ (let found = w.in-Some.ensures in w.setting-is
          ∙ h w.in-Some.i w.code.result (omega (arith, found)) w.code.ensures ∙ rw (lt-ltb _ _ found.0, found.1))
      | in-None w ↦ w.setting-is ∙ sym (not-there _ _ _ 2 w.in-None.ensures)
    ])

pub returns : goal.returns
returns g c = λ codes h. tabled-all (c.loop-j.invariant codes h) (omega arith)
