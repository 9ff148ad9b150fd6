-- `text_names::pack::fill_names` meets its contract: the number is that of the name at its place.
use borrow.Author.Rules.{rules}
use Rattle.text_names.specs.Packed.{packed_at, packed_through}
use Rattle.text_names.proofs.pack.fill_names.Goals as goal

pub returns : goal.returns
unfolding packed_through
returns c = c.fill_at_places.ensures (packed_at c.args.text.now) (λ place v h. search rules)
