-- `words_layout::bytes::is_digit` meets its contract: the two tests are the definition's.
use borrow.Author.Tests.{le-leb, lt-leb}
use Rattle.netlist.specs.Names.{is_digit}
use Rattle.words_layout.proofs.bytes.is_digit.Goals as goal

pub returns-then-c-ge48 : goal.returns-then-c-ge48
unfolding is_digit
returns-then-c-ge48 c = rw (le-leb 48 c.args.c c.if-c-ge48.true)

pub returns-else-c-ge48 : goal.returns-else-c-ge48
unfolding is_digit
returns-else-c-ge48 c = rw (lt-leb 48 c.args.c c.if-c-ge48.false)
