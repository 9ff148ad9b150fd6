-- `text_pieces::put_trimmed` meets its contract: the bytes before the first zero stay, and what is behind it is trimmed
-- from the end.
use Rattle.prelude.proofs.Elements.{rest-is-drop}
use Rattle.text_pieces.proofs.TrimLaws.{trim-more, rest_put}
use Rattle.text_pieces.proofs.put_trimmed.Goals as goal

pub returns-then-bytes-i-eq0 : goal.returns-then-bytes-i-eq0
returns-then-bytes-i-eq0 c =
    let put = c in
    let l = c in
    rest_put l.loop-i.invariant (rw (rest-is-drop l.args.bytes.now
    l.loop-i.i) at put.put_without_zeros.ensures)

pub loop-i-preserved : goal.loop-i-preserved
loop-i-preserved c =
    let put = c in
    let tested = put in
    let l = tested in
    trim-more l.loop-i.invariant tested.loop-i-test.true tested.if-bytes-i-eq0.false put.put-end.ensures
