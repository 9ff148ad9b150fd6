-- `exports::unloop_bring` meets its contract: its reply keeps the operation's promise.
use Rattle.exports.proofs.Shown.{replies}
use Rattle.exports.proofs.unloop_bring.Goals as goal

pub returns : goal.returns
returns c = replies c.bring.ensures c.reply_of.ensures
