-- `exports::unloop_gather` meets its contract: its reply keeps the operation's promise on both slices.
use Rattle.exports.proofs.Shown.{gather-reply}
use Rattle.exports.proofs.unloop_gather.Goals as goal

pub returns : goal.returns
returns c = gather-reply c.gather.ensures c.reply_of.ensures
