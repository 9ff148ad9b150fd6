-- `words_block::names::Names::differ` meets its contract: both names stand within the longest words.
use mathlib.Core.Path.{ap}
use mathlib.Core.Bool.{not}
use Rattle.theory_encoding.specs.Rules.{same_name}
use Rattle.words_block.proofs.names.Names.differ.Goals as goal

pub returns : goal.returns
unfolding same_name
returns c = rw (← c.place.ensures.0, ← c.place-2.ensures.0) (ap not c.is_same.ensures)
