-- `op_verdict::verdict` meets its contract: torn words are refused, and whole ones are `whole_verdict`'s.
use mathlib.Core.List.{[]}
use Rattle.netlist.specs.declared.Refusal.TheVariants.{MalformedBlock}
use Rattle.words_refusals.proofs.Promised.{test-err, failed, bare, keeps-bare}
use Rattle.op_verdict.proofs.Outcomes.{verdict-chain}
use Rattle.op_verdict.proofs.verdict.Goals as goal

pub returns-in_err-block : goal.returns-in_err-block
returns-in_err-block c =
    (failed bare keeps-bare _ _ MalformedBlock (verdict-chain _) c.check_words.ensures.tested []
    (test-err c.in_err-block.was) c.from_residual.ensures.1).told
