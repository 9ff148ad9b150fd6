-- `exports::unloop_groups` meets its contract: its reply keeps the operation's promise.
use Rattle.exports.proofs.Shown.{replies}
use Rattle.exports.proofs.unloop_groups.Goals as goal

pub returns : goal.returns
returns c = replies c.groups.ensures c.reply_of.ensures
