-- `exports::unloop_cells` meets its contract: its reply keeps the operation's promise.
use Rattle.exports.proofs.Shown.{cells-reply}
use Rattle.exports.proofs.unloop_cells.Goals as goal

pub returns : goal.returns
returns c = cells-reply c.make_cells.ensures c.reply_of.ensures
