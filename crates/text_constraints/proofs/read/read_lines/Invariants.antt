-- `text_constraints::read::read_lines` meets its contract: one line a turn; the first place that a line tells is kept.
-- Assumes nothing.
use Rattle.text_constraints.proofs.LineWalk.{Reading}
use Rattle.text_constraints.proofs.read.read_lines.Given as goal

abbrev pub invariant-loop-i : goal.invariant-loop-i
invariant-loop-i l =
    Reading l.text l.from l.count l.inputs l.n l.initial.masks l.at l.i l.repeat l.outside l.names l.masks
