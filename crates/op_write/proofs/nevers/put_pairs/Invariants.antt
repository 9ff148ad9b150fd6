-- `op_write::nevers::put_pairs` meets its contract: these are its pieces.
use Rattle.op_write.specs.Lines.{fixed_text}
use Rattle.op_write.specs.contracts.nevers.fn.put_pairs.put_each as closure
use Rattle.op_write.proofs.nevers.put_pairs.Given as goal

abbrev pub ghost-put_each : goal.ghost-put_each
ghost-put_each a = fixed_text (closure.captures a.put).words.now (closure.captures a.put).fixed (closure.captures a.put).ones
