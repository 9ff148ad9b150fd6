-- `text_recogniser::pairs::pairs` meets its contract. The loop's invariant: the answer is that of the pairs still to
-- come, on what is left.
use Rattle.text_recogniser.proofs.PairSteps.{PairsLeft}
use Rattle.text_recogniser.proofs.pairs.pairs.Given as goal

abbrev pub invariant-loop-i : goal.invariant-loop-i
invariant-loop-i l = PairsLeft l.s l.most l.needed l.i l.rest
