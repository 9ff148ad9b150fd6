-- `op_write::lines::put_gates` meets its contract: these are its pieces.
use Rattle.op_write.specs.Lines.{gate_text}
use Rattle.op_write.specs.contracts.lines.fn.put_gates.put_each as closure
use Rattle.op_write.proofs.lines.put_gates.Given as goal

abbrev pub ghost-put_each : goal.ghost-put_each
ghost-put_each a = gate_text (closure.captures a.put).words.now (closure.captures a.put).from
