-- `text_pieces::put_number` meets its contract: below 10,000 the digits of thousands, hundreds and tens, as far as
-- there are any, and the last (`decimal-four`).
use native.Mathlib.Omega.{arith}
use Rattle.text_pieces.proofs.DecimalLaws.{decimal-four, four-short, three-short, two-short}
use Rattle.text_pieces.proofs.Appending.{appended_then, short-first, short-rest}
use Rattle.text_pieces.proofs.put_number.Goals as goal

pub put_digit-thousands-requires-clause-short : goal.put_digit-thousands-requires-clause-short
put_digit-thousands-requires-clause-short c = short-first _ (four-short c.args.v (omega arith) c.requires)

pub put_digit-hundreds-requires-clause-short : goal.put_digit-hundreds-requires-clause-short
put_digit-hundreds-requires-clause-short c =
    short-first _ (three-short c.args.v (omega arith) c.requires c.put_digit-thousands.ensures)

pub put_digit-tens-requires-clause-short : goal.put_digit-tens-requires-clause-short
put_digit-tens-requires-clause-short c =
    short-first _
    (two-short c.args.v (omega arith) c.requires c.put_digit-thousands.ensures c.put_digit-hundreds.ensures)

pub put-requires : goal.put-requires
put-requires c =
    let two = two-short c.args.v (omega arith) c.requires c.put_digit-thousands.ensures c.put_digit-hundreds.ensures in
    short-rest _ two c.put_digit-tens.ensures

pub returns : goal.returns
returns c =
    rw (decimal-four c.args.v (omega arith))
    (appended_then c.put_digit-thousands.ensures
    (appended_then c.put_digit-hundreds.ensures (appended_then c.put_digit-tens.ensures c.put.ensures)))
