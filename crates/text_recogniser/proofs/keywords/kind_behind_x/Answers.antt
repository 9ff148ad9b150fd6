-- `text_recogniser::keywords::kind_behind_x` meets its contract.
use mathlib.Core.Path.{refl}
use borrow.Author.Tests.{ne_eqb}
use Rattle.text_recogniser.specs.Keywords.{kind_behind_x}
use Rattle.text_recogniser.proofs.keywords.kind_behind_x.Goals as goal

pub returns-then-c-eq-XOR_O : goal.returns-then-c-eq-XOR_O
unfolding kind_behind_x
returns-then-c-eq-XOR_O c = rw c.if-c-eq-XOR_O.true refl

pub returns-else-c-eq-XOR_O : goal.returns-else-c-eq-XOR_O
unfolding kind_behind_x
returns-else-c-eq-XOR_O c = rw (ne_eqb c.args.c 111 c.if-c-eq-XOR_O.false) refl
