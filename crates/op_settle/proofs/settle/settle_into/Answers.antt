-- `op_settle::settle::settle_into` meets its contract: the graph's settled values are the block's (`settled-bytes`).
use mathlib.Core.Path.{refl}
use Rattle.graph_simulation.proofs.Starts.{empty, blank}
use Rattle.op_settle.proofs.Outcomes.{settled-bytes}
use Rattle.op_settle.proofs.settle.settle_into.Goals as goal

pub prepare-requires : goal.prepare-requires
prepare-requires c = (refl, empty)

pub put_setting-requires : goal.put_setting-requires
put_setting-requires c = (blank, c.requires.0)

pub returns : goal.returns
returns c =
    settled-bytes c.args.setting.now c.args.out.now c.prepare.ensures.decoded c.put_setting.ensures _
    c.gates_of.ensures c.settle_prepared-count.ensures c.take_gates.ensures
