-- `text_pieces::put_decimal`: the number itself falls.
use Rattle.text_pieces.proofs.+put_decimal.Given as goal

abbrev pub decreases-put_decimal : goal.decreases-put_decimal
decreases-put_decimal l = l.v
