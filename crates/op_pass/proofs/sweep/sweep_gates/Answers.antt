-- `op_pass::sweep::sweep_gates` meets its contract: each gate is evaluated from the values already there.
use native.Mathlib.Omega.{arith}
use Rattle.graph_simulation.proofs.State.{legal-gate}
use Rattle.op_pass.proofs.Sweeps.{sweeping-more, sweeping-end}
use Rattle.op_pass.proofs.sweep.sweep_gates.Goals as goal

pub gate_value-found-requires : goal.gate_value-found-requires
gate_value-found-requires c =
    record {
      table_value = c.requires.0;
      legal_gate = (legal-gate c.args.graph.legal c.loop-j.j c.loop-j-test.true, c.loop-j.invariant.1.coded);
    }

pub loop-j-preserved : goal.loop-j-preserved
loop-j-preserved c = (
  omega arith,
  sweeping-more _ c.args.graph.legal c.loop-j.invariant.1 c.loop-j-test.true
      c.gate_value-found.result c.gate_value-found.ensures,
)

pub returns : goal.returns
returns c = sweeping-end _ c.args.graph.legal c.loop-j.invariant.1 c.loop-j-test.false
