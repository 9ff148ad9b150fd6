-- `text_pieces::put_all` meets its contract: one byte more is appended.
use Rattle.text_pieces.proofs.Appending.{bytes-turn}
use Rattle.text_pieces.proofs.put_all.Goals as goal

pub loop-byte-preserved : goal.loop-byte-preserved
loop-byte-preserved c =
    bytes-turn c.args.bytes.now c.loop-byte.byte-index c.loop-byte-test.true c.loop-byte.invariant c.put-end.ensures
