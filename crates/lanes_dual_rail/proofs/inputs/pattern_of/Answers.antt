-- `lanes_dual_rail::inputs::pattern_of` meets its contract.
use borrow.Author.Rules.{rules}
use Rattle.netlist.specs.Assignments.{bit}
use Rattle.lanes_dual_rail.specs.Batches.{patterns}
use Rattle.lanes_dual_rail.proofs.InputLaws.{low-pattern, set-pattern, clear-pattern}
use Rattle.lanes_dual_rail.proofs.inputs.pattern_of.Goals as goal

pub returns-then-i-lt-LOW_INPUTS : goal.returns-then-i-lt-LOW_INPUTS
unfolding patterns
returns-then-i-lt-LOW_INPUTS c = low-pattern c.args.base c.args.i c.if-i-lt-LOW_INPUTS.true

pub returns-then-base-i-eq1 : goal.returns-then-base-i-eq1
unfolding bit
returns-then-base-i-eq1 c = let a = c.args in set-pattern a.base a.i c.if-i-lt-LOW_INPUTS.false c.if-base-i-eq1.true

pub returns-else-base-i-eq1 : goal.returns-else-base-i-eq1
unfolding bit
returns-else-base-i-eq1 c = let a = c.args in clear-pattern a.base a.i c.if-i-lt-LOW_INPUTS.false c.if-base-i-eq1.false
