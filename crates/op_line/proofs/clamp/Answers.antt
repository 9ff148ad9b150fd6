-- `op_line::clamp` meets its contract: the lesser of the two.
use borrow.Author.Rules.{rules}
use Rattle.netlist.specs.Line.{clamped}
use Rattle.op_line.proofs.clamp.Goals as goal

pub returns : goal.returns
unfolding clamped
returns c = search rules
