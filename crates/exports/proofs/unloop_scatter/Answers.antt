-- `exports::unloop_scatter` meets its contract: its reply keeps the operation's promise.
use Rattle.exports.proofs.Shown.{replies}
use Rattle.exports.proofs.unloop_scatter.Goals as goal

pub returns : goal.returns
returns c = replies c.scatter.ensures c.reply_of.ensures
