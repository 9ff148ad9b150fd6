-- `text_pairs::numbers::find_repeat` meets its contract: the place of the first name that stands before is read again.
-- Assumes nothing.
use mathlib.Core.Path.{ap, ◌∙◌}
use native.Mathlib.Omega.{arith}
use Rattle.netlist.specs.declared.Refusal.TheVariants.{DuplicateDeclaration}
use Rattle.std.specs.declared.result.Result.TheVariants.{Err}
use Rattle.text_pairs.proofs.NameTests.{repeat-failed, repeat-passed}
use Rattle.text_pairs.proofs.NumberLaws.{places-here, place_here}
use Rattle.text_pairs.proofs.numbers.find_repeat.Goals as goal

pub returns-in-Some : goal.returns-in-Some
returns-in-Some c =
    let a = c.args in
    let i = c.in-Some.i in
    let found = c.in-Some.ensures in
    λ ps is counted named.
    ap (λ p. Err (DuplicateDeclaration p)) (c.place_in_text.ensures ∙ place_here is a.base i (omega (arith, found)))
    ∙ repeat-failed ps is.legal _ named (places-here is a.base) counted found

pub returns-in-None : goal.returns-in-None
returns-in-None c =
    λ ps is counted named.
    repeat-passed ps is.legal _ named (places-here is c.args.base) counted c.in-None.ensures
