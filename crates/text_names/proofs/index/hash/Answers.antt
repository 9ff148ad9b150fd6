-- `text_names::index::hash` meets its contract.
use borrow.Author.Rules.{rules}
use Rattle.text_names.specs.Index.{hash_of}
use Rattle.text_names.proofs.index.hash.Goals as goal

pub returns : goal.returns
unfolding hash_of
returns c = search rules
