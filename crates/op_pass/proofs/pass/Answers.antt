-- `op_pass::pass` meets its contract: the tests are the definition's conditions in its order, and then one sweep finds
-- the values.
use mathlib.Core.Path.{sym}
use borrow.Author.Tests.{ltb-false}
use Rattle.netlist.specs.declared.Refusal.TheVariants.{MalformedBlock, BadSetting, NotStraight, NoRoom}
use Rattle.netlist.specs.Answers.{in_room}
use Rattle.words_refusals.proofs.Promised.{test-ok, test-err, passed, passed-false}
use Rattle.words_refusals.proofs.Promised.{failed, keeps-room, bare, keeps-bare, finished}
use Rattle.op_settle.proofs.Settings.{good-setting}
use Rattle.op_pass.proofs.Outcomes.{pass-chain, words-passed, straight-passed, setting-passed, pass-promise}
use Rattle.op_pass.proofs.pass.Goals as goal

pub returns-in_err-block : goal.returns-in_err-block
returns-in_err-block c =
    pass-promise
    (failed (in_room _) (keeps-room _) _ _ MalformedBlock (pass-chain _ _ _) c.check_words.ensures.tested
    c.args.values.now (test-err c.in_err-block.was) c.from_residual.ensures.1)

pub returns-in_err-check_straight : goal.returns-in_err-check_straight
returns-in_err-check_straight c =
    pass-promise
    (failed (in_room _) (keeps-room _) _ _ NotStraight
    (words-passed _ _ _ c.check_words.ensures.tested (test-ok c.in_ok-block.was)) (rw c.in_ok-block.ensures.block at
    c.check_straight.ensures)
    c.args.values.now c.in_err-check_straight.was c.from_residual-in_err-check_straight.ensures.1)

pub returns-in_err-test_setting : goal.returns-in_err-test_setting
returns-in_err-test_setting c =
    pass-promise
    (failed (in_room _) (keeps-room _) _ _ BadSetting
    (straight-passed _ _ _ c.check_words.ensures.tested (test-ok c.in_ok-block.was) (rw c.in_ok-block.ensures.block at
    c.check_straight.ensures)
    c.in_ok-check_straight.was)
    c.test_setting.ensures c.args.values.now c.in_err-test_setting.was
    c.from_residual-in_err-test_setting.ensures.1)

pub returns-in_err-test_room : goal.returns-in_err-test_room
returns-in_err-test_room c =
    pass-promise
    (failed bare keeps-bare _ _ NoRoom
    (setting-passed _ _ _ c.check_words.ensures.tested (test-ok c.in_ok-block.was) (rw c.in_ok-block.ensures.block at
    c.check_straight.ensures)
    c.in_ok-check_straight.was c.test_setting.ensures c.in_ok-test_setting.was c.gates_of.ensures)
    c.test_room.ensures c.args.values.now c.in_err-test_room.was c.from_residual-in_err-test_room.ensures.1)

pub sweep_into-count-requires : goal.sweep_into-count-requires
sweep_into-count-requires c =
    let whole = passed-false _ MalformedBlock c.check_words.ensures.tested (test-ok c.in_ok-block.was) in
    let room = ltb-false _ _ (passed-false _ NoRoom c.test_room.ensures c.in_ok-test_room.was) in (
      good-setting _ _ whole (passed-false _ BadSetting c.test_setting.ensures c.in_ok-test_setting.was),
      rw (c.in_ok-block.ensures.block, sym c.gates_of.ensures) room,
    )

pub returns : goal.returns
returns c =
    let d = rw c.in_ok-block.ensures.block at c.sweep_into-count.ensures in
    pass-promise
    (finished (passed bare keeps-bare _ _ NoRoom
    (setting-passed _ _ _ c.check_words.ensures.tested (test-ok c.in_ok-block.was) (rw c.in_ok-block.ensures.block at
    c.check_straight.ensures)
    c.in_ok-check_straight.was c.test_setting.ensures c.in_ok-test_setting.was c.gates_of.ensures)
    c.test_room.ensures c.in_ok-test_room.was) d.value d.out_after)
