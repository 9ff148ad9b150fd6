-- `op_cells::run::run_cells` meets its contract: the tests are the definition's conditions in its order, and then each
-- cell is run once.
use mathlib.Core.Path.{refl}
use native.Mathlib.Omega.{arith}
use borrow.Author.Tests.{ltb-false, not-false}
use Rattle.netlist.specs.declared.Refusal.TheVariants.{MalformedBlock, BadSetting, NoRoom}
use Rattle.netlist.specs.Cells.{cell_count}
use Rattle.words_refusals.proofs.Promised.{passed, passed-false, failed, bare, keeps-bare, finished}
use Rattle.op_cells.proofs.Outcomes.{run-chain, cells-passed, bytes-passed, good-bits, legal-short}
use Rattle.op_cells.proofs.run.run_cells.Goals as goal

pub returns-in_err-check_cells : goal.returns-in_err-check_cells
returns-in_err-check_cells c =
    failed bare keeps-bare _ _ MalformedBlock (run-chain _ _ _ _) c.check_cells.ensures
    c.args.values.now c.in_err-check_cells.was c.from_residual.ensures.1

pub returns-in_err-test_bytes : goal.returns-in_err-test_bytes
returns-in_err-test_bytes c =
    failed bare keeps-bare _ _ BadSetting (cells-passed _ _ _ _ c.check_cells.ensures c.in_ok-check_cells.was)
    c.test_bytes.ensures c.args.values.now c.in_err-test_bytes.was c.from_residual-in_err-test_bytes.ensures.1

pub returns-in_err-test_room : goal.returns-in_err-test_room
returns-in_err-test_room c =
    failed bare keeps-bare _ _ NoRoom
    (bytes-passed _ _ _ _ c.check_cells.ensures c.in_ok-check_cells.was c.test_bytes.ensures c.in_ok-test_bytes.was)
    c.test_room.ensures c.args.values.now c.in_err-test_room.was c.from_residual-in_err-test_room.ensures.1

pub run_each-requires : goal.run_each-requires
unfolding cell_count
run_each-requires c =
    let legal = not-false _ (passed-false _ MalformedBlock c.check_cells.ensures c.in_ok-check_cells.was) in
    let room = ltb-false _ _ (passed-false _ NoRoom c.test_room.ensures c.in_ok-test_room.was) in record {
      count_value = (refl, omega (arith, legal-short c.args.inputs c.args.cells.now legal), room);
      bits = good-bits c.args.inputs c.args.setting.now
          (passed-false _ BadSetting c.test_bytes.ensures c.in_ok-test_bytes.was);
    }

pub returns : goal.returns
returns c =
    finished (passed bare keeps-bare _ _ NoRoom
    (bytes-passed _ _ _ _ c.check_cells.ensures c.in_ok-check_cells.was c.test_bytes.ensures c.in_ok-test_bytes.was)
    c.test_room.ensures c.in_ok-test_room.was) refl c.run_each.ensures
