-- `text_pieces::put_digit` meets its contract: nothing below the unit, and one digit from there on.
use Rattle.text_pieces.proofs.DecimalLaws.{digit-none, digit-some}
use Rattle.text_pieces.proofs.Appending.{appended-none}
use Rattle.text_pieces.proofs.put_digit.Goals as goal

pub returns-then-v-unit : goal.returns-then-v-unit
returns-then-v-unit c =
    let a = c.args in
    rw (digit-none a.v a.unit c.if-v-unit.true) (appended-none a.text.now a.at)

pub put-requires : goal.put-requires
put-requires c =
    let start = c in
    rw (digit-some start.args.v start.args.unit c.if-v-unit.false) at start.requires.short

pub returns : goal.returns
returns c =
    let put = c in
    let tested = put in
    let a = tested.args in
    rw (digit-some a.v a.unit tested.if-v-unit.false) put.put.ensures
