-- `text_pieces::put_all` meets its contract: after i turns the first i bytes are appended.
use lib.ListN.{take}
use Rattle.text_pieces.specs.Pieces.{Appended}
use Rattle.text_pieces.proofs.put_all.Given as goal

abbrev pub invariant-loop-byte : goal.invariant-loop-byte
invariant-loop-byte l = Appended (take l.byte-index l.bytes) l.initial.text l.at l.text l.end
