-- `exports::unloop_pass` meets its contract: its reply keeps the operation's promise.
use Rattle.exports.proofs.Shown.{pass-reply}
use Rattle.exports.proofs.unloop_pass.Goals as goal

pub returns : goal.returns
returns c = pass-reply c.pass.ensures c.reply_of.ensures
