-- `op_bring::bring` meets its contract: the two conditions, and then the words.
use mathlib.Core.Path.{refl}
use native.Mathlib.Omega.{arith}
use borrow.Author.Tests.{ltb-false}
use Rattle.netlist.specs.declared.Refusal.TheVariants.{MalformedBlock, NoRoom}
use Rattle.netlist.specs.Answers.{in_room}
use Rattle.words_refusals.proofs.Promised.{passed, passed-false, failed, keeps-room, bare, keeps-bare, finished}
use Rattle.op_bring.proofs.Words.{whole_long, bring-start, bring-room}
use Rattle.op_bring.proofs.bring.Goals as goal

pub returns-in_err-check_before : goal.returns-in_err-check_before
returns-in_err-check_before c =
    failed (in_room _) (keeps-room _) _ _ MalformedBlock (bring-start _ _) c.check_before.ensures
    c.args.block.now c.in_err-check_before.was c.from_residual.ensures.1

pub returns-in_err-test_room : goal.returns-in_err-test_room
returns-in_err-test_room c =
    let whole = passed-false _ MalformedBlock c.check_before.ensures c.in_ok-check_before.was in
    failed bare keeps-bare _ _ NoRoom (bring-room _ _ whole) c.test_room.ensures
    c.args.block.now c.in_err-test_room.was c.from_residual-in_err-test_room.ensures.1

pub put_brought-requires : goal.put_brought-requires
put_brought-requires c =
    let whole = passed-false _ MalformedBlock c.check_before.ensures c.in_ok-check_before.was in
    let room = ltb-false _ _ (passed-false _ NoRoom c.test_room.ensures c.in_ok-test_room.was) in
    (whole_long _ whole, omega (arith, room))

pub returns : goal.returns
returns c =
    let whole = passed-false _ MalformedBlock c.check_before.ensures c.in_ok-check_before.was in
    finished (passed bare keeps-bare _ _ NoRoom (bring-room _ _ whole) c.test_room.ensures c.in_ok-test_room.was)
    refl c.put_brought.ensures
