-- `op_sheet::answer_to_sheet` meets its contract: 6, or the number of records.
use mathlib.Core.Path.{sym}
use mathlib.Core.List.{[]}
use Rattle.netlist.specs.declared.Refusal.TheVariants.{MalformedBlock}
use Rattle.words_refusals.proofs.Promised.{test-ok, test-err, passed-false, failed, bare, keeps-bare, promise-answer}
use Rattle.op_sheet.proofs.RecordLaws.{sheet-chain, sheet-done}
use Rattle.op_sheet.proofs.answer_to_sheet.Goals as goal

pub returns-in_err-check_words : goal.returns-in_err-check_words
returns-in_err-check_words c =
    promise-answer
    (failed bare keeps-bare _ _ MalformedBlock (sheet-chain _ _) c.check_words.ensures.tested [] (test-err
    c.in_err-check_words.was)
    c.from_residual.ensures.1)

pub returns : goal.returns
returns c =
    let whole = passed-false _ MalformedBlock c.check_words.ensures.tested (test-ok c.in_ok-check_words.was) in
    sym (sheet-done c.args.words.now c.args.count whole)
