-- `text_names::index::enter_while_room` meets its contract: the names passed are in the index, and none repeats one
-- before it.
use Rattle.text_names.proofs.Indexing.{Entering}
use Rattle.text_names.proofs.index.enter_while_room.Given as goal

abbrev pub invariant-loop-i : goal.invariant-loop-i
invariant-loop-i l = Entering l.names l.initial.index l.i l.index
