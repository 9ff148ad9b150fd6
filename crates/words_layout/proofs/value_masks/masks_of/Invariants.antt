-- `words_layout::value_masks::masks_of` meets its contract: the masks of the values passed, from the last.
use mathlib.Core.List.{map}
use Rattle.netlist.specs.Values.{value_of}
use Rattle.words_layout.proofs.Gathered.{Gathered}
use Rattle.words_layout.proofs.value_masks.masks_of.Given as goal

abbrev pub invariant-loop-i : goal.invariant-loop-i
invariant-loop-i l = Gathered (map value_of l.values) l.i l.defined l.ones
