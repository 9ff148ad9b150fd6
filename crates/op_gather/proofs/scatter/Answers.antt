-- `op_gather::scatter` meets its contract: the words' condition, and then the rest.
use Rattle.netlist.specs.declared.Refusal.TheVariants.{MalformedBlock}
use Rattle.netlist.specs.Answers.{in_room}
use Rattle.words_refusals.proofs.Promised.{test-err, failed, keeps-room}
use Rattle.op_gather.proofs.Chain.{scatter-chain}
use Rattle.op_gather.proofs.scatter.Goals as goal

pub returns-in_err-block : goal.returns-in_err-block
returns-in_err-block c =
    let t = c in
    let s = c in
    failed (in_room _) (keeps-room _) _ _ MalformedBlock (scatter-chain _ _ _) t.check_words.ensures.tested
    s.args.original.now (test-err c.in_err-block.was) c.from_residual.ensures.1
