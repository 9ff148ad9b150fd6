-- `op_sheet::inputs::one_bit` meets its contract.
use mathlib.Core.Path.{refl}
use native.Mathlib.Omega.{arith}
use borrow.Author.Tests.{eq-eqb, ne_eqb}
use Rattle.netlist.specs.Values.{value_of}
use Rattle.netlist.specs.Assignments.{bit, is_one}
use Rattle.netlist.specs.Sheet.{input_byte}
use Rattle.op_sheet.proofs.SideLaws.{one_of}
use Rattle.op_sheet.proofs.inputs.one_bit.Goals as goal

pub returns-then-fixed-i-eq1 : goal.returns-then-fixed-i-eq1
unfolding input_byte bit
returns-then-fixed-i-eq1 c = rw (eq-eqb _ 1 c.if-fixed-i-eq1.true) (one_of _ (omega arith))

pub returns-else-fixed-i-eq1 : goal.returns-else-fixed-i-eq1
unfolding input_byte bit is_one value_of
returns-else-fixed-i-eq1 c = rw (ne_eqb _ 1 c.if-fixed-i-eq1.false) refl
