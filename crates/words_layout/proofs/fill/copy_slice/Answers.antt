-- `words_layout::fill::copy_slice` meets its contract: the words passed are those of the slice that is read.
use mathlib.Core.Path.{◌≡◌, refl, sym, ap, ◌∙◌}
use Prim.Native.Nat.{ℕ}
use native.Mathlib.Omega.{arith}
use lib.ListN.{length, get_or, take}
use lib.Seq.{take_all}
use Rattle.prelude.specs.Lists.{tab}
use Rattle.prelude.proofs.Tab.{length-tab, tab-get_d}
use Rattle.prelude.proofs.Slices.{take-placed}
use Rattle.prelude.proofs.Tabled.{tabled-none, tabled-more, tabled-all}
use Rattle.words_layout.proofs.fill.copy_slice.Goals as goal

pub loop-i-init : goal.loop-i-init
loop-i-init c = tabled-none

pub loop-i-preserved : goal.loop-i-preserved
loop-i-preserved c = tabled-more c.loop-i.invariant (omega arith) (omega arith) refl

pub returns : goal.returns
returns c =
    let from = c.args.from.now in
    let f : ℕ → ℕ = λ p. get_or from p 0 in
    let n = length from in
    let holds = tabled-all c.loop-i.invariant (omega arith) in
    let whole : length c.loop-i.to ≡ n = omega (arith, c.loop-i.invariant.kept) in
    sym (take_all n c.loop-i.to (omega (arith, whole)))
    ∙ ap (take n) holds
    ∙ take-placed (tab f n) c.args.to.now n (length-tab f n)
    ∙ tab-get_d 0 from n refl
