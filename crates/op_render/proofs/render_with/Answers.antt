-- `op_render::render_with` meets its contract: the tests are the definition's conditions in its order, 8 before 9
-- before 11.
use borrow.Author.Tests.{ltb-false, not-false}
use Rattle.netlist.specs.declared.Refusal.TheVariants.{TooManyCopies, NotSettled}
use Rattle.netlist.specs.StoredBlock.{decode}
use Rattle.netlist.specs.Answers.{in_room}
use Rattle.words_refusals.proofs.Promised.{passed, passed-false, failed, keeps-room}
use Rattle.op_render.proofs.Cases.{render-whole}
use Rattle.op_render.proofs.Told.{passes-placed}
use Rattle.op_render.proofs.render_with.Goals as goal

-- what is counted tells whether the copies are too many
pub returns-in_err-refuse_if : goal.returns-in_err-refuse_if
returns-in_err-refuse_if c =
    let told = c.walk_batches-found.ensures.counted.tells in
    failed (in_room _) (keeps-room _) _ _ TooManyCopies (render-whole c.args.block.now.words.now _ _
    c.args.block.now.well_formed told)
    c.refuse_if.ensures c.args.rendered.now c.in_err-refuse_if.was c.from_residual.ensures.1

pub test_settings-requires : goal.test_settings-requires
test_settings-requires c =
    let fit = ltb-false _ _ (passed-false _ TooManyCopies c.refuse_if.ensures c.in_ok-refuse_if.was) in
    c.walk_batches-found.ensures.lowest fit

pub returns-in_err-test_settings : goal.returns-in_err-test_settings
returns-in_err-test_settings c =
    let told = c.walk_batches-found.ensures.counted.tells in
    failed (in_room _) (keeps-room _) _ _ (NotSettled _)
    (passed (in_room _) (keeps-room _) _ _ TooManyCopies (render-whole c.args.block.now.words.now _ _
    c.args.block.now.well_formed told)
    c.refuse_if.ensures c.in_ok-refuse_if.was)
    c.test_settings.ensures c.args.rendered.now c.in_err-test_settings.was
    c.from_residual-in_err-test_settings.ensures.1

pub invariant_of-group_passes : goal.invariant_of-group_passes
invariant_of-group_passes c = record { few = c.list_block-count.ensures.listed.listing.few_groups }

pub finish-requires : goal.finish-requires
finish-requires c =
    let fit = ltb-false _ _ (passed-false _ TooManyCopies c.refuse_if.ensures c.in_ok-refuse_if.was) in
    let e = c.list_block-count.ensures.listed in
    let found = c.walk_batches-found.ensures.counted in
    record {
      ready =
          record {
            whole = c.args.block.now.well_formed;
            copies =
                e.copies _
                (passes-placed (decode c.args.block.now.words.now) _ _ _ e.listing.count_is (found.passes_are fit));
            total_is = found.total_is fit;
            fits = fit;
          };
      settled = not-false _ (passed-false _ (NotSettled _) c.test_settings.ensures c.in_ok-test_settings.was);
    }
