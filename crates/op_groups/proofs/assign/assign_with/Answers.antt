-- `op_groups::assign::assign_with` meets its contract: a block has its graph's groups.
use Rattle.op_groups.proofs.Answered.{block-numbered}
use Rattle.op_groups.proofs.assign.assign_with.Goals as goal

pub invariant_of-decoded : goal.invariant_of-decoded
invariant_of-decoded c = record { legal = rw c.gates_of.ensures c.decode_gates.ensures.legal }

pub returns : goal.returns
returns c =
    let is = c.gates_of.ensures in
    block-numbered c.decode_gates.ensures (rw is at c.number_groups-count.ensures) (rw is at c.copy_numbers.ensures)
