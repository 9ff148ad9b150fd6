-- `exports::unloop_cover` meets its contract: its reply keeps the operation's promise.
use Rattle.exports.proofs.Shown.{replies}
use Rattle.exports.proofs.unloop_cover.Goals as goal

pub returns : goal.returns
returns c = replies c.cover.ensures c.reply_of.ensures
