-- `op_pass::sweep::sweep_into` meets its contract: the sweep of the graph is the block's (`swept-bytes`).
use Rattle.graph_simulation.proofs.Starts.{blank}
use Rattle.op_pass.proofs.Sweeps.{swept-bytes}
use Rattle.op_pass.proofs.sweep.sweep_into.Goals as goal

pub put_setting-requires : goal.put_setting-requires
put_setting-requires c =
    (blank, c.requires.0)

pub invariant_of-decoded : goal.invariant_of-decoded
invariant_of-decoded c = record { legal = rw c.gates_of-m.ensures c.decode_gates.ensures.legal }

pub returns : goal.returns
returns c =
    let a = c.args in record {
      out_after = swept-bytes a.block.now.words.now a.setting.now a.out.now c.decode_gates.ensures
          c.put_setting.ensures _ c.gates_of-m.ensures c.sweep_gates.ensures c.take_gates.ensures;
      value = c.gates_of-m.ensures;
    }
