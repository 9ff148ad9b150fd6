-- `words_layout::masks::are_masks` meets its contract: the three tests in their order.
use mathlib.Core.Path.{sym, ◌∙◌}
use native.Mathlib.Omega.{arith}
use Rattle.words_layout.proofs.MaskLaws.{shifted, masks-fixed, masks-ones, masks-within}
use Rattle.words_layout.proofs.masks.are_masks.Goals as goal

pub returns-then-limit-fixed : goal.returns-then-limit-fixed
returns-then-limit-fixed c =
    let a = c.args in
    let s = shifted c.requires in
    sym (masks-fixed a.n a.fixed a.ones (omega (arith, s, c.if-limit-fixed.true)))

pub returns-then-limit-ones : goal.returns-then-limit-ones
returns-then-limit-ones c =
    let a = c.args in
    let s = shifted c.requires in
    sym (masks-ones a.n a.fixed a.ones (omega (arith, s, c.if-limit-fixed.false))
    (omega (arith, s, c.if-limit-ones.true)))

pub returns : goal.returns
returns c =
    let a = c.args in
    let s = shifted c.requires in
    c.is_within.ensures
    ∙ sym (masks-within a.n a.fixed a.ones (omega (arith, s, c.if-limit-fixed.false))
    (omega (arith, s, c.if-limit-ones.false)))
