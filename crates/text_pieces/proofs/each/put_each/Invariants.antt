-- `text_pieces::each::put_each` meets its contract: after i turns the first i pieces are appended.
use Rattle.text_pieces.proofs.Appending.{PiecesPut}
use Rattle.text_pieces.proofs.each.put_each.Given as goal

abbrev pub invariant-loop-i : goal.invariant-loop-i
invariant-loop-i g l = PiecesPut g.piece l.count l.initial.text l.at l.text l.end l.i
