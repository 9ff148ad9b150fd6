-- `exports::unloop_render` meets its contract: it shows an answer that keeps the promise.
use Rattle.exports.proofs.Shown.{render-reply}
use Rattle.exports.proofs.unloop_render.Goals as goal

pub returns : goal.returns
returns c = render-reply c.render.ensures c.reply_of.ensures
