-- `text_pieces::each::put_each` meets its contract: after i turns the first i pieces are appended.
use Rattle.text_pieces.proofs.Appending.{put-none, put-short, put-more}
use Rattle.text_pieces.proofs.each.put_each.Goals as goal

pub loop-i-init : goal.loop-i-init
loop-i-init g c = put-none

pub put-end-requires : goal.put-end-requires
put-end-requires g c =
    c.requires.1.1.0 _ _ _ c.loop-i-test.true (put-short c.loop-i.invariant c.loop-i-test.true c.requires.1.0)

pub loop-i-preserved : goal.loop-i-preserved
loop-i-preserved g c =
    let l = c.loop-i-test.true in
    put-more c.loop-i.invariant l
    (c.requires.1.1.1 _ _ _ _ _ l (put-short c.loop-i.invariant l c.requires.1.0) c.put-end.ensures)
