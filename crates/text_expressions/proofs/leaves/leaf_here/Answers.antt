-- `text_expressions::leaves::leaf_here` meets its contract.
use mathlib.Core.Path.{sym, ◌∙◌}
use Rattle.text_expressions.proofs.Fronts.{leaf-0, leaf-1, leaf-name}
use Rattle.text_expressions.specs.Leaves.{constant_here}
use Rattle.text_expressions.proofs.leaves.leaf_here.Goals as goal

pub returns-then-c-eq48 : goal.returns-then-c-eq48
unfolding constant_here
returns-then-c-eq48 c =
    let a = c.args in
    leaf-0 a.s.now a.symbols.now.names.now a.symbols.now.words.now a.unknown
    (sym c.byte_at-c.ensures ∙ c.if-c-eq48.true)

pub returns-then-c-eq49 : goal.returns-then-c-eq49
unfolding constant_here
returns-then-c-eq49 c =
    let a = c.args in
    leaf-1 a.s.now a.symbols.now.names.now a.symbols.now.words.now a.unknown
    (sym c.byte_at-c.ensures ∙ c.if-c-eq49.true)

pub returns : goal.returns
returns c =
    let a = c.args in
    c.name_here.ensures ∙ leaf-name a.s.now a.symbols.now.names.now a.symbols.now.words.now a.unknown
    (λ e. c.if-c-eq48.false (c.byte_at-c.ensures ∙ e)) (λ e. c.if-c-eq49.false (c.byte_at-c.ensures ∙ e))
