-- `op_cells::truth::truth_word` meets its contract: the table is read at the first word.
use native.Mathlib.Omega.{arith}
use Rattle.op_cells.proofs.TruthWords.{head-low, truth-entry}
use Rattle.op_cells.proofs.truth.truth_word.Goals as goal

pub offset_bounds-words-head : goal.offset_bounds-words-head
offset_bounds-words-head c = omega (arith, head-low c.args.head c.requires)

pub bounds-words-head : goal.bounds-words-head
bounds-words-head c = omega (arith, head-low c.args.head c.requires)

pub returns : goal.returns
returns c = rw c.truth_words-words.ensures (truth-entry c.args.head c.requires)
