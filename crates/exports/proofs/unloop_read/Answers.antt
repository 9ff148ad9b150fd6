-- `exports::unloop_read` meets its contract: its reply keeps the operation's promise.
use Rattle.exports.proofs.Shown.{replies}
use Rattle.exports.proofs.unloop_read.Goals as goal

pub returns : goal.returns
returns c = replies c.read.ensures c.reply_of.ensures
