-- `op_sheet::settling::settle_looped` meets its contract: the lanes are settled by the plan.
use Rattle.op_sheet.proofs.SettledLaws.{fixed-decoded}
use Rattle.op_sheet.proofs.settling.settle_looped.Goals as goal

pub settle_layers-requires : goal.settle_layers-requires
settle_layers-requires c =
    let m = c in
    let p = m.plan_block.ensures in
    let s = m in (
      rw m.gates_of.ensures p.decoded.legal,
      rw m.gates_of.ensures p.layers,
      rw m.gates_of.ensures s.requires,
    )

pub returns : goal.returns
returns c =
    let lent = c in
    let m = lent in
    fixed-decoded m.plan_block.ensures.decoded (rw m.gates_of.ensures at c.settle_layers.ensures)
