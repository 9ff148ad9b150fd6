-- `op_sheet::turns::refuse` meets its contract.
use native.Mathlib.Omega.{arith}
use Rattle.netlist.specs.Answers.{refusal_number}
use Rattle.netlist.specs.Sheet.{refused_record}
use Rattle.op_sheet.proofs.turns.refuse.Goals as goal

pub overflow_cast-result : goal.overflow_cast-result
unfolding refusal_number
overflow_cast-result c = omega (arith, c.number_of.ensures)

pub returns : goal.returns
unfolding refused_record
returns c = rw c.number_of.ensures
