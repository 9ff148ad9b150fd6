-- `text_lines::count` meets its contract: what was counted and what is left to count are the whole count.
use Rattle.text_lines.specs.Lines.{times}
use Rattle.text_lines.proofs.Scanning.{CountedTo}
use Rattle.text_lines.proofs.count.Given as goal

abbrev pub invariant-loop-x : goal.invariant-loop-x
invariant-loop-x l = CountedTo (times l.b) l.s l.x-index l.n
