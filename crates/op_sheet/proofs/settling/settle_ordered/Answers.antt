-- `op_sheet::settling::settle_ordered` meets its contract: a straight block is settled by one sweep.
use Rattle.lanes_batch.proofs.Layering.{straight-decoded}
use Rattle.op_sheet.proofs.SettledLaws.{fixed-decoded}
use Rattle.op_sheet.proofs.settling.settle_ordered.Goals as goal

pub invariant_of-decoded : goal.invariant_of-decoded
invariant_of-decoded c = record { legal = rw c.gates_of.ensures c.decode_gates.ensures.legal }

pub settle_straight-requires : goal.settle_straight-requires
settle_straight-requires c = rw c.gates_of.ensures (straight-decoded c.decode_gates.ensures c.requires.straight)

pub returns : goal.returns
returns c =
    fixed-decoded (rw c.gates_of.ensures c.decode_gates.ensures)
    (c.settle_straight.ensures.each 6 (rw c.gates_of.ensures c.requires.fresh))
