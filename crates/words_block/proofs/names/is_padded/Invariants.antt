-- `words_block::names::is_padded` meets its contract: the bytes passed are name bytes, so the rest decides.
use Rattle.theory_encoding.specs.Rules.{padded}
use Rattle.words_block.proofs.NameLaws.{Rest}
use Rattle.words_block.proofs.names.is_padded.Given as goal

abbrev pub invariant-loop-i : goal.invariant-loop-i
invariant-loop-i l = Rest padded l.words l.at 0 l.i
