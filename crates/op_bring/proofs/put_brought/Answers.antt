-- `op_bring::put_brought` meets its contract: the counts, the fourth, and the words behind them.
use Rattle.op_bring.proofs.Words.{brought-put}
use Rattle.op_bring.proofs.put_brought.Goals as goal

pub returns : goal.returns
returns c =
    brought-put c.args.old.now c.args.block.now c.requires.0 c.requires.1 c.copy_slice.ensures
    c.copy_slice-2.ensures
