-- `text_recogniser::form` meets its contract. The loop's invariant: the text's answer is that of the lines of `rest`,
-- of which those of this phase may come. A line that was read leaves less, and where none is left the text is legal.
use lib.ListN.{length}
use Rattle.text_recogniser.proofs.Reached.{Reached}
use Rattle.text_recogniser.proofs.form.Given as goal

abbrev pub invariant-loop-rest : goal.invariant-loop-rest
invariant-loop-rest l = Reached l.text l.phase l.rest

abbrev pub decreases-loop-rest : goal.decreases-loop-rest
decreases-loop-rest l = length l.rest
