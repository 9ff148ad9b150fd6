-- `exports::unloop_write` meets its contract: its reply keeps the operation's promise.
use Rattle.exports.proofs.Shown.{replies}
use Rattle.exports.proofs.unloop_write.Goals as goal

pub returns : goal.returns
returns c = replies c.write.ensures c.reply_of.ensures
