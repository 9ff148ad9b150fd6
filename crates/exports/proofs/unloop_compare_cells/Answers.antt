-- `exports::unloop_compare_cells` meets its contract: its reply keeps the operation's promise.
use Rattle.exports.proofs.Shown.{shows-told}
use Rattle.exports.proofs.unloop_compare_cells.Goals as goal

pub returns : goal.returns
returns c = shows-told c.compare_cells.ensures c.reply_of.ensures
