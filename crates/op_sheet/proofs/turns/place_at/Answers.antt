-- `op_sheet::turns::place_at` meets its contract.
use mathlib.Core.Path.{refl}
use borrow.Author.Tests.{lt-ltb, le-ltb}
use Rattle.op_sheet.specs.Order.{reads_at, record_at}
use Rattle.op_sheet.proofs.turns.place_at.Goals as goal

pub returns-then-t-size : goal.returns-then-t-size
unfolding record_at reads_at
returns-then-t-size c = rw (← c.size_at-size.ensures, lt-ltb _ _ c.if-t-size.true) refl

pub returns : goal.returns
unfolding record_at reads_at
returns c = rw (← c.size_at-size.ensures, le-ltb _ _ c.if-t-size.false) refl
