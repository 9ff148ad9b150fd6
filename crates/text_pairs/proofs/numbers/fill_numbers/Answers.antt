-- `text_pairs::numbers::fill_numbers` meets its contract: the number is that of the name at its place. Assumes nothing.
use borrow.Author.Rules.{rules}
use Rattle.text_pairs.specs.PairBytes.{pair_number}
use Rattle.text_pairs.proofs.numbers.fill_numbers.Goals as goal

pub returns : goal.returns
unfolding pair_number
returns c = c.fill_at_names.ensures (pair_number c.args.s.now c.args.at) (λ i v h. search rules)
