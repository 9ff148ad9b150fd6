-- `op_gather::arranged::move_gates` meets its contract: after t turns t gates stand.
use mathlib.Core.Path.{◌∙◌}
use Rattle.op_gather.proofs.Written.{moved-next}
use Rattle.op_gather.proofs.arranged.move_gates.Goals as goal

pub loop-t-preserved : goal.loop-t-preserved
loop-t-preserved c =
    let a = c.args in
    let m = a.mapping.now in
    let l = c.loop-t in
    let g = c.write_gate in (
      moved-next m.words.now m.nodes a.order.now m.table.now a.out.now l.out _ l.t l.invariant.0 g.ensures,
      g.auto.out ∙ l.invariant.1,
    )
