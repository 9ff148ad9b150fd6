-- `op_render::render` meets its promise: the answer and the slice are the definition's, and the definition has every
-- part of it.
use Rattle.netlist.specs.declared.Refusal.TheVariants.{MalformedBlock}
use Rattle.netlist.specs.Answers.{in_room}
use Rattle.words_refusals.proofs.Promised.{test-err, failed, keeps-room}
use Rattle.op_render.proofs.Cases.{render-chain}
use Rattle.op_render.proofs.Promise.{whole-promise}
use Rattle.op_render.proofs.render.Goals as goal

pub returns-in_err-block : goal.returns-in_err-block
returns-in_err-block c =
    let t = c in
    let a = t.args in
    whole-promise
    (failed (in_room _) (keeps-room _) _ _ MalformedBlock (render-chain a.words.now _) t.check_words.ensures.tested
    a.rendered.now (test-err c.in_err-block.was) c.from_residual.ensures.1)

pub returns : goal.returns
returns c = whole-promise (rw c.in_ok-block.ensures.block at c.render_with.ensures)
