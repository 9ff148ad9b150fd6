-- `op_compare::compare` meets its contract: the tests are the definition's conditions in its order, and then the
-- settings are searched.
use mathlib.Core.Path.{◌∙◌, sym, ap}
use mathlib.Core.List.{[]}
use Rattle.netlist.specs.declared.Refusal.TheVariants.{MalformedBlock, NotStraight, InterfaceMismatch}
use Rattle.netlist.specs.Answers.{answer_of}
use Rattle.words_refusals.proofs.Promised.{test-ok, test-err, tell, passed, passed-false, failed, bare, keeps-bare}
use Rattle.op_compare.proofs.Chain.{compare-chain, pair-passed, ours-passed, theirs-passed, straight-passed}
use Rattle.op_compare.proofs.compare.Goals as goal

pub returns-in_err-our_block : goal.returns-in_err-our_block
returns-in_err-our_block c =
    (failed bare keeps-bare _ _ MalformedBlock (compare-chain _ _) c.check_words.ensures.tested [] (test-err
    c.in_err-our_block.was)
    c.from_residual.ensures.1).told

pub returns-in_err-their_block : goal.returns-in_err-their_block
returns-in_err-their_block c =
    let behind = ours-passed _ c.args.theirs.now c.check_words.ensures.tested (test-ok c.in_ok-our_block.was) in
    (failed bare keeps-bare _ _ MalformedBlock behind c.check_words-2.ensures.tested [] (test-err c.in_err-their_block.was)
    c.from_residual-in_err-their_block.ensures.1).told

pub returns-in_err-check_straight : goal.returns-in_err-check_straight
returns-in_err-check_straight c =
    let behind =
    theirs-passed _ _ c.check_words.ensures.tested (test-ok c.in_ok-our_block.was) c.check_words-2.ensures.tested (test-ok
    c.in_ok-their_block.was)
    in
    (failed bare keeps-bare _ _ NotStraight behind (rw c.in_ok-their_block.ensures.block at c.check_straight.ensures) []
    c.in_err-check_straight.was
    c.from_residual-in_err-check_straight.ensures.1).told

pub returns-in_err-check_interface : goal.returns-in_err-check_interface
returns-in_err-check_interface c =
    let behind =
    straight-passed _ _ c.check_words.ensures.tested (test-ok c.in_ok-our_block.was) c.check_words-2.ensures.tested
    (test-ok c.in_ok-their_block.was) (rw c.in_ok-their_block.ensures.block at c.check_straight.ensures)
    c.in_ok-check_straight.was
    in
    (failed bare keeps-bare _ _ InterfaceMismatch behind (rw (
      c.in_ok-our_block.ensures.block,
      c.in_ok-their_block.ensures.block,
    ) at c.check_interface.ensures) [] c.in_err-check_interface.was
    c.from_residual-in_err-check_interface.ensures.1).told

pub compare_pair-requires : goal.compare_pair-requires
compare_pair-requires c =
    rw (c.in_ok-our_block.ensures.block, c.in_ok-their_block.ensures.block)
    (pair-passed _ _ (passed-false _ MalformedBlock c.check_words.ensures.tested (test-ok c.in_ok-our_block.was))
    (passed-false _ MalformedBlock c.check_words-2.ensures.tested (test-ok c.in_ok-their_block.was))
    (passed-false _ NotStraight (rw c.in_ok-their_block.ensures.block at c.check_straight.ensures) c.in_ok-check_straight.was)
    (passed-false _ InterfaceMismatch (rw (c.in_ok-our_block.ensures.block, c.in_ok-their_block.ensures.block) at
    c.check_interface.ensures) c.in_ok-check_interface.was))

pub returns : goal.returns
returns c =
    let behind =
    straight-passed _ _ c.check_words.ensures.tested (test-ok c.in_ok-our_block.was) c.check_words-2.ensures.tested
    (test-ok c.in_ok-their_block.was) (rw c.in_ok-their_block.ensures.block at c.check_straight.ensures)
    c.in_ok-check_straight.was
    in
    tell (rw (c.in_ok-our_block.ensures.block, c.in_ok-their_block.ensures.block) at c.compare_pair.ensures
    ∙ ap answer_of
    (sym (passed bare keeps-bare _ _ InterfaceMismatch behind (rw (
      c.in_ok-our_block.ensures.block,
      c.in_ok-their_block.ensures.block,
    ) at c.check_interface.ensures) c.in_ok-check_interface.was)))
