-- `unroll_emission::rendered::copy_outputs` meets its contract: after o turns o outputs stand.
use mathlib.Core.Path.{◌∙◌}
use Rattle.unroll_emission.proofs.Words.{outputs-next}
use Rattle.unroll_emission.proofs.rendered.copy_outputs.Goals as goal

pub loop-o-preserved : goal.loop-o-preserved
loop-o-preserved c =
    let a = c.args in
    let m = a.mapping.now in
    let l = c.loop-o in
    let e = c.copy_entry in (
      outputs-next m.words.now m.nodes m.table.now a.out.now l.out _ a.to l.o l.invariant.0 e.ensures,
      e.auto.out ∙ l.invariant.1,
    )
