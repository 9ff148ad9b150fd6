-- The cycle of calls {expression, operand, operands}. Bytes left fall: each measure is twice the length of the text,
-- one more for an expression, whose operands may begin where it does. The loop's invariant: the answer is that of the
-- operands still to come, on what is left.
use Prim.Native.Nat.{suc, ◌*◌}
use lib.ListN.{length}
use Rattle.netlist.specs.Parse.{term_reader}
use Rattle.text_recogniser.proofs.OperandSteps.{OperandsLeft}
use Rattle.text_recogniser.proofs.expressions.+expression_operand_operands.Given as goal

abbrev pub decreases-expression : goal.decreases-expression
decreases-expression l = suc (2 * length l.s.now)

abbrev pub decreases-operand : goal.decreases-operand
decreases-operand l = 2 * length l.s.now

abbrev pub decreases-operands : goal.decreases-operands
decreases-operands l = 2 * length l.s.now

abbrev pub invariant-operands-loop-i : goal.invariant-operands-loop-i
invariant-operands-loop-i l = OperandsLeft (term_reader l.depth) l.s l.most l.needed l.i l.rest
