-- `text_recogniser::scan::name_bytes` meets its contract: the first byte that is no name byte ends them.
use borrow.Author.Rules.{rules}
use borrow.Author.Tests.{tests}
use mathlib.Core.Path.{◌≡◌, ◌∙◌}
use native.Mathlib.Omega.{arith}
use Rattle.prelude.specs.Lists.{least}
use Rattle.prelude.proofs.Ranges.{least-of_range}
use Rattle.text_recogniser.proofs.Words.{no_name_byte, names-within, names-end}
use Rattle.text_recogniser.proofs.scan.name_bytes.Goals.{After-unwrap_or-end}
use Rattle.text_recogniser.proofs.scan.name_bytes.Goals as goal

ends : (c : After-unwrap_or-end) → c.unwrap_or-end.result ≡ least (no_name_byte c.args.s.now) c.args.most
ends c =
    c.unwrap_or-end.ensures
    ∙ least-of_range _ c.find.result (no_name_byte c.args.s.now) c.args.most c.find.ensures.ran
    (λ x b q k. search (rules, tests))

pub overflow_sub-result : goal.overflow_sub-result
overflow_sub-result c =
    omega (arith, ends (goal.at.overflow_sub-result c).After-unwrap_or-end, names-within c.args.most c.args.s.now)

pub returns : goal.returns
returns c = rw (ends (goal.at.returns c).After-unwrap_or-end) (names-end c.args.most c.args.s.now)
