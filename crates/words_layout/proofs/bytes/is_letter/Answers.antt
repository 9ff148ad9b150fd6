-- `words_layout::bytes::is_letter` meets its contract: the two tests are the definition's.
use borrow.Author.Tests.{le-leb, lt-leb}
use Rattle.netlist.specs.Names.{is_letter}
use Rattle.words_layout.proofs.bytes.is_letter.Goals as goal

pub returns-then-c-ge97 : goal.returns-then-c-ge97
unfolding is_letter
returns-then-c-ge97 c = rw (le-leb 97 c.args.c c.if-c-ge97.true)

pub returns-else-c-ge97 : goal.returns-else-c-ge97
unfolding is_letter
returns-else-c-ge97 c = rw (lt-leb 97 c.args.c c.if-c-ge97.false)
