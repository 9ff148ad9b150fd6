-- `text_pieces::put_trimmed` meets its contract: the bytes before the first zero stay, and what is behind it is trimmed
-- from the end.
use Rattle.text_pieces.proofs.TrimLaws.{TrimmedPut}
use Rattle.text_pieces.proofs.put_trimmed.Given as goal

abbrev pub invariant-loop-i : goal.invariant-loop-i
invariant-loop-i l = TrimmedPut l.bytes l.initial.text l.at l.text l.end l.i
