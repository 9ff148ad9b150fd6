-- `exports::unloop_settle` meets its contract: its reply keeps the operation's promise.
use Rattle.exports.proofs.Shown.{replies}
use Rattle.exports.proofs.unloop_settle.Goals as goal

pub returns : goal.returns
returns c = replies c.settle.ensures c.reply_of.ensures
