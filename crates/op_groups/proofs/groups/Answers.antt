-- `op_groups::groups` meets its contract: the tests are the definition's conditions in its order, and then the groups
-- are numbered.
use mathlib.Core.Path.{sym}
use borrow.Author.Tests.{ltb-false}
use Rattle.netlist.specs.declared.Refusal.TheVariants.{MalformedBlock, NoRoom}
use Rattle.netlist.specs.Answers.{in_room}
use Rattle.words_refusals.proofs.Promised.{test-ok, test-err, passed, passed-false}
use Rattle.words_refusals.proofs.Promised.{failed, keeps-room, bare, keeps-bare, finished}
use Rattle.op_groups.proofs.Answered.{groups-chain, words-passed}
use Rattle.op_groups.proofs.groups.Goals as goal

pub returns-in_err-block : goal.returns-in_err-block
returns-in_err-block c =
    failed (in_room _) (keeps-room _) _ _ MalformedBlock (groups-chain _ _) c.check_words.ensures.tested
    c.args.numbers.now (test-err c.in_err-block.was) c.from_residual.ensures.1

pub returns-in_err-test_room : goal.returns-in_err-test_room
returns-in_err-test_room c =
    failed bare keeps-bare _ _ NoRoom
    (words-passed _ _ c.check_words.ensures.tested (test-ok c.in_ok-block.was) c.gates_of.ensures) c.test_room.ensures
    c.args.numbers.now c.in_err-test_room.was c.from_residual-in_err-test_room.ensures.1

pub assign-count-requires : goal.assign-count-requires
assign-count-requires c =
    let room = ltb-false _ _ (passed-false _ NoRoom c.test_room.ensures c.in_ok-test_room.was) in
    rw (c.in_ok-block.ensures.block, sym c.gates_of.ensures) room

pub returns : goal.returns
returns c =
    let d = rw c.in_ok-block.ensures.block at c.assign-count.ensures in
    finished
    (passed bare keeps-bare _ _ NoRoom
    (words-passed _ _ c.check_words.ensures.tested (test-ok c.in_ok-block.was) c.gates_of.ensures) c.test_room.ensures
    c.in_ok-test_room.was)
    d.count_is d.numbers_are
