-- `text_recogniser::lines::phase_of` meets its contract: the arms are the definition's tests.
use native.Mathlib.Omega.{arith}
use borrow.Author.Tests.{ne_eqb}
use Rattle.text_recogniser.specs.Scan.{phase_of}
use Rattle.text_recogniser.proofs.lines.phase_of.Goals as goal

pub returns-in-105 : goal.returns-in-105
unfolding phase_of
returns-in-105 c = rw c.in-105.is

pub returns-in-110 : goal.returns-in-110
unfolding phase_of
returns-in-110 c = rw c.in-110.is

pub returns-in-103 : goal.returns-in-103
unfolding phase_of
returns-in-103 c = rw c.in-103.is

pub returns-in_default : goal.returns-in_default
unfolding phase_of
returns-in_default c =
    rw (
      ne_eqb 105 c.args.letter (λ e. omega arith),
      ne_eqb 110 c.args.letter (λ e. omega arith),
      ne_eqb 103 c.args.letter (λ e. omega arith),
    )
