-- `text_pieces::put_decimal` meets its contract: the digits of a tenth, and one more.
use native.Mathlib.Omega.{arith}
use Rattle.text_pieces.proofs.DecimalLaws.{decimal-one, decimal-more, short-smaller}
use Rattle.text_pieces.proofs.Appending.{appended_then, short-rest}
use Rattle.text_pieces.proofs.+put_decimal.Goals as goal

pub put-requires : goal.put-requires
put-requires t c = rw (decimal-one c.args.v c.if-v-lt10.true) at c.requires

pub returns-then-v-lt10 : goal.returns-then-v-lt10
returns-then-v-lt10 t c = rw (decimal-one c.args.v c.if-v-lt10.true) c.put.ensures

pub put_decimal-end-requires : goal.put_decimal-end-requires
put_decimal-end-requires t c = (omega arith, short-smaller (omega arith) c.requires)

pub put-requires-2 : goal.put-requires-2
put-requires-2 t c =
    short-rest _ (rw (decimal-more c.args.v c.if-v-lt10.false) at c.requires) c.put_decimal-end.ensures

pub returns : goal.returns
returns t c =
    rw (decimal-more c.args.v c.if-v-lt10.false) (appended_then c.put_decimal-end.ensures c.put-2.ensures)
