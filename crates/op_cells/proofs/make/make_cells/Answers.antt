-- `op_cells::make::make_cells` meets its contract: the tests are the definition's conditions in its order, and then the
-- words are put.
use mathlib.Core.Path.{refl, ap}
use Prim.Native.Nat.{ℕ, ◌*◌}
use native.Mathlib.Omega.{arith}
use borrow.Author.Tests.{ltb-false}
use Rattle.netlist.specs.declared.Refusal.TheVariants.{MalformedBlock, NotStraight, NoRoom}
use Rattle.netlist.specs.Cells.{cell_size}
use Rattle.theory_encoding.proofs.Readers.{whole_parts}
use Rattle.words_refusals.proofs.Promised.{test-ok, test-err, passed, passed-false, failed, bare, keeps-bare, finished}
use Rattle.op_cells.proofs.Outcomes.{make-chain, words-passed, straight-passed, make-promise}
use Rattle.op_cells.proofs.make.make_cells.Goals as goal

pub returns-in_err-block : goal.returns-in_err-block
returns-in_err-block c =
    make-promise
    (failed bare keeps-bare _ _ MalformedBlock (make-chain _ _) c.check_words.ensures.tested c.args.cells.now
    (test-err c.in_err-block.was) c.from_residual.ensures.1)

pub returns-in_err-check_straight : goal.returns-in_err-check_straight
returns-in_err-check_straight c =
    make-promise
    (failed bare keeps-bare _ _ NotStraight (words-passed _ _ c.check_words.ensures.tested (test-ok c.in_ok-block.was))
    (rw c.in_ok-block.ensures.block at c.check_straight.ensures) c.args.cells.now c.in_err-check_straight.was
    c.from_residual-in_err-check_straight.ensures.1)

pub overflow_mul-count : goal.overflow_mul-count
overflow_mul-count c =
    let whole = passed-false _ MalformedBlock c.check_words.ensures.tested (test-ok c.in_ok-block.was) in
    omega (arith, c.gates_of-count.ensures, (whole_parts _ whole).few_gates)

pub returns-in_err-test_room : goal.returns-in_err-test_room
returns-in_err-test_room c =
    make-promise
    (failed bare keeps-bare _ _ NoRoom
    (straight-passed _ _ c.check_words.ensures.tested (test-ok c.in_ok-block.was) (rw c.in_ok-block.ensures.block at
    c.check_straight.ensures)
    c.in_ok-check_straight.was c.gates_of-count.ensures)
    c.test_room.ensures c.args.cells.now c.in_err-test_room.was c.from_residual-in_err-test_room.ensures.1)

pub put_cells-requires : goal.put_cells-requires
put_cells-requires c = (
  rw c.in_ok-block.ensures.block (ap (λ (m : ℕ). cell_size * m) c.gates_of-count.ensures),
  ltb-false _ _ (passed-false _ NoRoom c.test_room.ensures c.in_ok-test_room.was),
)

pub returns : goal.returns
returns c =
    make-promise
    (finished (passed bare keeps-bare _ _ NoRoom
    (straight-passed _ _ c.check_words.ensures.tested (test-ok c.in_ok-block.was) (rw c.in_ok-block.ensures.block at
    c.check_straight.ensures)
    c.in_ok-check_straight.was c.gates_of-count.ensures)
    c.test_room.ensures c.in_ok-test_room.was) refl (rw c.in_ok-block.ensures.block at c.put_cells.ensures))
