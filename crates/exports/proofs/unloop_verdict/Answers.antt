-- `exports::unloop_verdict` meets its contract: its reply keeps the operation's promise.
use Rattle.exports.proofs.Shown.{shows-told}
use Rattle.exports.proofs.unloop_verdict.Goals as goal

pub returns : goal.returns
returns c = shows-told c.verdict.ensures c.reply_of.ensures
