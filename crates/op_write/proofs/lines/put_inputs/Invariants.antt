-- `op_write::lines::put_inputs` meets its contract: these are its pieces.
use Rattle.op_write.specs.Lines.{input_text}
use Rattle.op_write.specs.contracts.lines.fn.put_inputs.put_each as closure
use Rattle.op_write.proofs.lines.put_inputs.Given as goal

abbrev pub ghost-put_each : goal.ghost-put_each
ghost-put_each a = input_text (closure.captures a.put).words.now
