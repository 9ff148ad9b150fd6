-- `words_refusals::reply_of_refusal` meets its contract.
use borrow.Author.Rules.{rules}
use Rattle.words_refusals.proofs.Shown.{shows-refusal}
use Rattle.words_refusals.proofs.reply_of_refusal.Goals as goal

pub returns : goal.returns
returns c = shows-refusal c.args.refusal c.number_of-number.ensures c.detail_of-detail.ensures
