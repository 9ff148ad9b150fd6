-- `exports::unloop_run` meets its contract: its reply keeps the operation's promise.
use Rattle.exports.proofs.Shown.{replies}
use Rattle.exports.proofs.unloop_run.Goals as goal

pub returns : goal.returns
returns c = replies c.run_cells.ensures c.reply_of.ensures
