-- `op_gather::steps::check_rooms` meets its contract: the first slice, and then the second.
use mathlib.Core.Path.{refl}
use borrow.Author.Tests.{lt-ltb}
use Rattle.words_refusals.specs.Tests.{test_of}
use Rattle.op_gather.proofs.steps.check_rooms.Goals as goal

pub returns-then-room-needed : goal.returns-then-room-needed
unfolding test_of
returns-then-room-needed c = let a = c.args in rw (lt-ltb a.room a.needed c.if-room-needed.true) refl
