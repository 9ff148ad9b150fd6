-- `words_block::names::only_zeros` meets its contract: the bytes passed are zero, so the rest decides.
use lib.Dec.{eqb}
use Rattle.prelude.specs.Lists.{all}
use Rattle.words_block.proofs.NameLaws.{Rest}
use Rattle.words_block.proofs.names.only_zeros.Given as goal

abbrev pub invariant-loop-j : goal.invariant-loop-j
invariant-loop-j l = Rest (all (eqb 0)) l.words l.at l.i l.j
