-- `op_write::write` meets its contract: once there is room, the text is written.
use mathlib.Core.Path.{◌≡◌, ◌∙◌}
use native.Mathlib.Omega.{arith}
use lib.ListN.{length}
use borrow.Author.Tests.{ltb-false}
use Rattle.prelude.proofs.Slices.{sets-placed}
use Rattle.netlist.specs.declared.Refusal.TheVariants.{MalformedBlock, NoRoom}
use Rattle.netlist.specs.Answers.{in_room}
use Rattle.words_refusals.proofs.Promised.{test-ok, test-err, passed, passed-false}
use Rattle.words_refusals.proofs.Promised.{failed, keeps-room, bare, keeps-bare, finished}
use Rattle.op_write.specs.Lines.{block_text}
use Rattle.op_write.proofs.Outcomes.{write-start, write-room}
use Rattle.op_write.proofs.write.Goals as goal

pub returns-in_err-block : goal.returns-in_err-block
returns-in_err-block c =
    failed (in_room _) (keeps-room _) _ _ MalformedBlock (write-start _ _) c.check_words.ensures.tested
    c.args.text.now (test-err c.in_err-block.was) c.from_residual.ensures.1

pub returns-in_err-check_room : goal.returns-in_err-check_room
returns-in_err-check_room c =
    let whole = passed-false _ MalformedBlock c.check_words.ensures.tested (test-ok c.in_ok-block.was) in
    failed bare keeps-bare _ _ NoRoom (write-room c.args.words.now _ whole) (rw c.in_ok-block.ensures.block at
    c.check_room.ensures)
    c.args.text.now c.in_err-check_room.was c.from_residual-in_err-check_room.ensures.1

pub returns : goal.returns
returns c =
    let whole = passed-false _ MalformedBlock c.check_words.ensures.tested (test-ok c.in_ok-block.was) in
    let there = passed-false _ NoRoom (rw c.in_ok-block.ensures.block at c.check_room.ensures) c.in_ok-check_room.was in
    let text = block_text c.args.words.now in
    let put = rw c.in_ok-block.ensures.block at c.put_block-count.ensures in
    let count : c.put_block-count.result ≡ length text = omega (arith, put.end_is) in
    finished
    (passed bare keeps-bare _ _ NoRoom (write-room c.args.words.now (length c.args.text.now) whole)
    (rw c.in_ok-block.ensures.block at c.check_room.ensures) c.in_ok-check_room.was)
    count (put.text_is ∙ sets-placed text c.args.text.now (ltb-false (length c.args.text.now) (length text) there))
