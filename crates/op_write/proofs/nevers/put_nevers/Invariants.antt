-- `op_write::nevers::put_nevers` meets its contract: these are its pieces.
use Rattle.op_write.specs.Lines.{never_line_text}
use Rattle.op_write.specs.contracts.nevers.fn.put_nevers.put_each as closure
use Rattle.op_write.proofs.nevers.put_nevers.Given as goal

abbrev pub ghost-put_each : goal.ghost-put_each
ghost-put_each a = never_line_text (closure.captures a.put).words.now (closure.captures a.put).from
