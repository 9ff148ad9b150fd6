-- `op_sheet::outputs::show_lane` meets its contract: the masks of the outputs from o on are gathered.
use lib.ListN.{get_or}
use Rattle.words_layout.proofs.Gathered.{Gathered}
use Rattle.op_sheet.specs.Records.{shown_at}
use Rattle.op_sheet.proofs.outputs.show_lane.Given as goal

abbrev pub invariant-loop-o : goal.invariant-loop-o
invariant-loop-o l =
    Gathered (shown_at (get_or l.block.words.now 2 0) l.shown l.s) l.o l.defined l.values
