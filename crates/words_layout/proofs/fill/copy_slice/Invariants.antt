-- `words_layout::fill::copy_slice` meets its contract: the words passed are those of the slice that is read.
use lib.ListN.{length, get_or}
use Rattle.prelude.proofs.Tabled.{Tabled}
use Rattle.words_layout.proofs.fill.copy_slice.Given as goal

abbrev pub invariant-loop-i : goal.invariant-loop-i
invariant-loop-i l = Tabled (λ p. get_or l.from p 0) (length l.from) l.initial.to l.to l.i
