-- `text_pairs::numbers::find_outside` meets its contract: the place of the first outsider is read again. Assumes
-- nothing.
use mathlib.Core.Path.{ap, ◌∙◌}
use native.Mathlib.Omega.{arith}
use Rattle.netlist.specs.declared.Refusal.TheVariants.{UndeclaredName}
use Rattle.std.specs.declared.result.Result.TheVariants.{Err}
use Rattle.text_pairs.proofs.NameTests.{outside-failed, outside-passed}
use Rattle.text_pairs.proofs.NumberLaws.{places-here, place_here}
use Rattle.text_pairs.proofs.numbers.find_outside.Goals as goal

pub returns-in-Some : goal.returns-in-Some
returns-in-Some c =
    let a = c.args in
    let i = c.in-Some.i in
    let found = c.in-Some.ensures in
    λ ps known is counted named ins.
    ap (λ p. Err (UndeclaredName p)) (c.place_in_text.ensures ∙ place_here is a.base i (omega (arith, found)))
    ∙ outside-failed ps is.legal _ named (places-here is a.base) ins counted found

pub returns-in-None : goal.returns-in-None
returns-in-None c =
    λ ps known is counted named ins.
    outside-passed ps is.legal _ named (places-here is c.args.base) ins counted c.in-None.ensures
