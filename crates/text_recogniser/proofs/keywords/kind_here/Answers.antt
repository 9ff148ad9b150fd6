-- `text_recogniser::keywords::kind_here` meets its contract: each arm is one side of the definition's choices.
use mathlib.Core.Path.{sym, ◌∙◌, ap}
use native.Mathlib.Omega.{arith}
use Rattle.text_recogniser.specs.Keywords.{kind_behind_x}
use Rattle.text_recogniser.proofs.KeywordLaws.{kind-and, kind-or, kind-x, kind-nand, kind-not, kind-nor}
use Rattle.text_recogniser.proofs.keywords.kind_here.Goals as goal

pub returns-in-97 : goal.returns-in-97
returns-in-97 c = kind-and c.args.s.now (sym c.byte_at.ensures ∙ c.in-97.is)

pub returns-in-111 : goal.returns-in-111
returns-in-111 c = kind-or c.args.s.now (sym c.byte_at.ensures ∙ c.in-111.is)

pub returns-in-120 : goal.returns-in-120
returns-in-120 c =
    c.kind_behind_x.ensures
    ∙ ap kind_behind_x c.byte_at-in-120.ensures
    ∙ kind-x c.args.s.now (sym c.byte_at.ensures ∙ c.in-120.is)

pub returns-in_default : goal.returns-in_default
returns-in_default c =
    kind-nand c.args.s.now (λ z. omega arith) (λ z. omega arith) (λ z. omega arith) (omega arith)

pub returns-in_default-2 : goal.returns-in_default-2
returns-in_default-2 c =
    kind-not c.args.s.now (λ z. omega arith) (λ z. omega arith) (λ z. omega arith) (λ z. omega arith) (omega arith)

pub returns-in_default-3 : goal.returns-in_default-3
returns-in_default-3 c =
    kind-nor c.args.s.now (λ z. omega arith) (λ z. omega arith) (λ z. omega arith) (λ z. omega arith)
    (λ z. omega arith)
