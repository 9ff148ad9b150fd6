-- `words_refusals::reply_of` meets its contract, in both cases of an answer.
use Rattle.words_refusals.proofs.Shown.{shows-done}
use Rattle.words_refusals.proofs.reply_of.Goals as goal

pub returns-in-Ok : goal.returns-in-Ok
returns-in-Ok c = shows-done c.in-Ok.is
