-- `op_sheet::outputs::defined_bit` meets its contract.
use mathlib.Core.Path.{sym}
use Rattle.netlist.specs.Assignments.{bit}
use Rattle.lanes_dual_rail.specs.LaneWords.{pair_at}
use Rattle.op_sheet.proofs.SettledLaws.{defined-zero, defined-other}
use Rattle.op_sheet.proofs.outputs.defined_bit.Goals as goal

pub returns-then-shown-o-eq1 : goal.returns-then-shown-o-eq1
unfolding bit pair_at
returns-then-shown-o-eq1 c = sym (defined-zero _ _ c.if-shown-o-eq1.true)

pub returns-else-shown-o-eq1 : goal.returns-else-shown-o-eq1
unfolding bit pair_at
returns-else-shown-o-eq1 c = defined-other _ _ c.if-shown-o-eq1.false
