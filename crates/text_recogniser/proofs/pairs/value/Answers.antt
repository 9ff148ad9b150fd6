-- `text_recogniser::pairs::value` meets its contract: one law for each byte that may come.
use native.Mathlib.Omega.{arith}
use Rattle.text_recogniser.proofs.PairSteps.{value-bit, value_none}
use Rattle.text_recogniser.proofs.pairs.value.Goals as goal

pub returns-in-48 : goal.returns-in-48
returns-in-48 c = value-bit c.args.s.now c.byte_at.ensures (omega arith) (omega arith)

pub returns-in_default : goal.returns-in_default
returns-in_default c = value_none c.args.s.now c.byte_at.ensures (λ e. omega arith) (λ e. omega arith)

pub returns-in_default-2 : goal.returns-in_default-2
returns-in_default-2 c = value_none c.args.s.now c.byte_at.ensures (λ e. omega arith) (λ e. omega arith)
