-- `op_sheet::outputs::one_bit` meets its contract.
use mathlib.Core.Path.{sym}
use Rattle.netlist.specs.Assignments.{bit}
use Rattle.lanes_dual_rail.specs.LaneWords.{pair_at}
use Rattle.op_sheet.proofs.SettledLaws.{one-zero, one-other}
use Rattle.op_sheet.proofs.outputs.one_bit.Goals as goal

pub returns-then-shown-o-eq1 : goal.returns-then-shown-o-eq1
unfolding bit pair_at
returns-then-shown-o-eq1 c = sym (one-zero _ _ c.if-shown-o-eq1.true)

pub returns-else-shown-o-eq1 : goal.returns-else-shown-o-eq1
unfolding bit pair_at
returns-else-shown-o-eq1 c = one-other _ _ c.if-shown-o-eq1.false
