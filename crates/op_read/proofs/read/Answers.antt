-- `op_read::read` meets its contract: 1, 2, and then the rest.
use mathlib.Core.Path.{◌≡◌}
use borrow.Author.Tests.{ltb-false}
use lib.ListN.{length}
use Rattle.netlist.specs.declared.Refusal.TheVariants.{TextTooLong, SyntaxError}
use Rattle.netlist.specs.Parse.{parse}
use Rattle.netlist.specs.Answers.{refuse_at, in_room}
use Rattle.netlist.specs.Operations.{read}
use Rattle.text_recogniser.specs.Scan.{first_bad}
use Rattle.words_refusals.proofs.Promised.{passed, passed-false, passed_none, failed, failed-at, keeps-room}
use Rattle.op_read.proofs.Outcomes.{read-start, after_form, read-form, in-form}
use Rattle.op_read.proofs.read.Goals.{In_ok-refuse_if}
use Rattle.op_read.proofs.read.Goals as goal

behind-length : (c : In_ok-refuse_if) → let a = c.args in
    read a.text.now (length a.block.now)
    ≡ in_room (length a.block.now) (refuse_at (first_bad a.text.now) SyntaxError
    (after_form (parse a.text.now)))
behind-length c =
    read-form _ _ (passed (in_room _) (keeps-room _) _ _ TextTooLong (read-start _ _) c.refuse_if.ensures
    c.in_ok-refuse_if.was)

pub returns-in_err-refuse_if : goal.returns-in_err-refuse_if
returns-in_err-refuse_if c =
    let t = c in
    failed (in_room _) (keeps-room _) _ _ TextTooLong (read-start _ _) t.refuse_if.ensures
    t.args.block.now c.in_err-refuse_if.was c.from_residual.ensures.1

pub returns-in_err-form : goal.returns-in_err-form
returns-in_err-form c =
    let t = c in
    failed-at (in_room _) (keeps-room _) _ _ SyntaxError (behind-length (goal.at.returns-in_err-form c).In_ok-refuse_if) t.form.ensures
    t.args.block.now c.in_err-form.was c.from_residual-in_err-form.ensures.1

pub read_legal-requires : goal.read_legal-requires
read_legal-requires c =
    let t = c in
    let l = t in
    in-form l.args.text.now (ltb-false _ _
    (passed-false _ TextTooLong l.refuse_if.ensures t.in_ok-refuse_if.was))
    (passed_none _ SyntaxError t.form.ensures c.in_ok-form.was)
