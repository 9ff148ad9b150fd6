-- `text_expressions::walk::expression` and `operand` meet their contracts: the bytes left fall with each call. The
-- loop's invariant: the operands read and those that are left are the expression's.
use Prim.Native.Nat.{◌-◌}
use lib.ListN.{length}
use Rattle.text_expressions.specs.Walk.{ListOn}
use Rattle.text_expressions.proofs.walk.+expression_operand.Given as goal

abbrev pub decreases-expression : goal.decreases-expression
decreases-expression l = length l.s.now

abbrev pub decreases-operand : goal.decreases-operand
decreases-operand l = length l.s.now

abbrev pub invariant-expression-loop-at : goal.invariant-expression-loop-at
invariant-expression-loop-at l =
    ListOn l.s l.initial.at l.n l.symbols.names.now l.symbols.words.now l.first l.fn.unknown l.initial.gates l.at
    l.count l.closed l.missing
    l.gates l.slots

abbrev pub decreases-expression-loop-at : goal.decreases-expression-loop-at
decreases-expression-loop-at l = length l.s - l.at
