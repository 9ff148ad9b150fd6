-- `exports::unloop_compare` meets its contract: its reply keeps the operation's promise.
use Rattle.exports.proofs.Shown.{shows-told}
use Rattle.exports.proofs.unloop_compare.Goals as goal

pub returns : goal.returns
returns c = shows-told c.compare.ensures c.reply_of.ensures
