-- `op_compare_cells::compare_cells` meets its contract: the tests are the definition's conditions in its order, and
-- then the settings are searched.
use mathlib.Core.Path.{sym, ap, ◌∙◌}
use mathlib.Core.List.{[]}
use borrow.Author.Tests.{not-false}
use Rattle.netlist.specs.declared.Refusal.TheVariants.{MalformedBlock, InterfaceMismatch}
use Rattle.netlist.specs.Answers.{answer_of}
use Rattle.words_refusals.proofs.Promised.{test-ok, test-err, tell, passed, passed-false, failed, bare, keeps-bare}
use Rattle.op_compare_cells.proofs.Chain.{compare-chain, all-passed, cells-told}
use Rattle.op_compare_cells.proofs.Chain.{words-passed, cells-passed, length-passed}
use Rattle.op_compare_cells.proofs.compare_cells.Goals as goal

pub returns-in_err-block : goal.returns-in_err-block
returns-in_err-block c =
    (failed bare keeps-bare _ _ MalformedBlock (compare-chain _ _ _) c.check_words.ensures.tested [] (test-err c.in_err-block.was)
    c.from_residual.ensures.1).told

pub returns-in_err-check_cells : goal.returns-in_err-check_cells
returns-in_err-check_cells c =
    let behind = words-passed _ _ _ c.check_words.ensures.tested (test-ok c.in_ok-block.was) in
    (failed bare keeps-bare _ _ MalformedBlock behind (cells-told _ _ c.inputs_of.ensures c.check_cells.ensures) []
    c.in_err-check_cells.was c.from_residual-in_err-check_cells.ensures.1).told

pub returns-in_err-check_length : goal.returns-in_err-check_length
returns-in_err-check_length c =
    let behind =
    cells-passed _ _ _ c.check_words.ensures.tested (test-ok c.in_ok-block.was) c.inputs_of.ensures c.check_cells.ensures
    c.in_ok-check_cells.was
    in
    (failed bare keeps-bare _ _ InterfaceMismatch behind c.check_length.ensures [] c.in_err-check_length.was
    c.from_residual-in_err-check_length.ensures.1).told

pub check_listed-requires : goal.check_listed-requires
check_listed-requires c =
    rw c.in_ok-block.ensures.block
    (not-false _
    (passed-false _ MalformedBlock (cells-told _ _ c.inputs_of.ensures c.check_cells.ensures) c.in_ok-check_cells.was))

pub returns-in_err-check_listed : goal.returns-in_err-check_listed
returns-in_err-check_listed c =
    let behind =
    length-passed _ _ _ c.check_words.ensures.tested (test-ok c.in_ok-block.was) c.inputs_of.ensures c.check_cells.ensures
    c.in_ok-check_cells.was c.check_length.ensures c.in_ok-check_length.was
    in
    (failed bare keeps-bare _ _ MalformedBlock behind (rw c.in_ok-block.ensures.block at c.check_listed.ensures) []
    c.in_err-check_listed.was
    c.from_residual-in_err-check_listed.ensures.1).told

pub compare_passed-requires : goal.compare_passed-requires
compare_passed-requires c =
    rw c.in_ok-block.ensures.block
    (all-passed _ _ _ (passed-false _ MalformedBlock c.check_words.ensures.tested (test-ok c.in_ok-block.was))
    (passed-false _ MalformedBlock (cells-told _ _ c.inputs_of.ensures c.check_cells.ensures) c.in_ok-check_cells.was)
    (passed-false _ InterfaceMismatch c.check_length.ensures c.in_ok-check_length.was)
    (passed-false _ MalformedBlock (rw c.in_ok-block.ensures.block at c.check_listed.ensures) c.in_ok-check_listed.was))

pub returns : goal.returns
returns c =
    let behind =
    length-passed _ _ _ c.check_words.ensures.tested (test-ok c.in_ok-block.was) c.inputs_of.ensures c.check_cells.ensures
    c.in_ok-check_cells.was c.check_length.ensures c.in_ok-check_length.was
    in
    tell (rw c.in_ok-block.ensures.block at c.compare_passed.ensures
    ∙ ap answer_of
    (sym (passed bare keeps-bare _ _ MalformedBlock behind (rw c.in_ok-block.ensures.block at c.check_listed.ensures)
    c.in_ok-check_listed.was)))
