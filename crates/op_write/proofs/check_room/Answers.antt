-- `op_write::check_room` meets its contract: no text is longer than the longest, and a pass over any text tells the
-- length.
use Prim.Native.Nat.{ℕ}
use mathlib.Core.Path.{◌≡◌, ap, ◌∙◌}
use native.Mathlib.Omega.{arith}
use lib.ListN.{length}
use lib.Dec.{ltb}
use Rattle.netlist.specs.declared.Refusal.TheVariants.{NoRoom}
use Rattle.words_refusals.specs.Tests.{test_of}
use Rattle.op_write.specs.Lines.{block_text}
use Rattle.op_write.proofs.Outcomes.{room-enough}
use Rattle.op_write.proofs.check_room.Goals as goal

pub returns-then-room-ge-WRITTEN_BYTES : goal.returns-then-room-ge-WRITTEN_BYTES
returns-then-room-ge-WRITTEN_BYTES c = let s = c in room-enough s.args.block.now.words.now s.args.room
    s.args.block.now.well_formed (omega arith)

pub returns : goal.returns
returns c =
    let put = c in
    let s = c in
    let count : put.put_block.result ≡ length (block_text s.args.block.now.words.now) =
    let n = put.put_block.ensures.end_is in omega (arith, n) in
    c.test_room.ensures ∙ ap (λ (n : ℕ). test_of (ltb s.args.room n) NoRoom) count
