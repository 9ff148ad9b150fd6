-- `op_cover::cover` meets its contract: torn words are refused, and whole ones are `whole_cover`'s.
use Rattle.netlist.specs.declared.Refusal.TheVariants.{MalformedBlock}
use Rattle.netlist.specs.Answers.{in_room}
use Rattle.words_refusals.proofs.Promised.{test-err, failed, keeps-room}
use Rattle.op_cover.proofs.Outcomes.{cover-chain}
use Rattle.op_cover.proofs.cover.Goals as goal

pub returns-in_err-block : goal.returns-in_err-block
returns-in_err-block c =
    let t = c in
    let s = t in
    failed (in_room _) (keeps-room _) _ _ MalformedBlock (cover-chain _ _) t.check_words.ensures.tested
    s.args.entries.now (test-err c.in_err-block.was) c.from_residual.ensures.1
