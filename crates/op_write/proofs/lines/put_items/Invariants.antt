-- `op_write::lines::put_items` meets its contract: its pieces are the items.
use Rattle.op_write.specs.Lines.{item_text}
use Rattle.op_write.specs.contracts.lines.fn.put_items.put_each as closure
use Rattle.op_write.proofs.lines.put_items.Given as goal

abbrev pub ghost-put_each : goal.ghost-put_each
ghost-put_each a = item_text (closure.captures a.put).words.now (closure.captures a.put).from
