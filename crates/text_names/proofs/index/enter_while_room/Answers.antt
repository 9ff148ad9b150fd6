-- `text_names::index::enter_while_room` meets its contract: the names passed are in the index, and none repeats one
-- before it.
use native.Mathlib.Omega.{arith}
use Rattle.text_names.proofs.Indexing.{entering-none, entering-more, entering-repeat, entering-all, sought-last}
use Rattle.text_names.proofs.index.enter_while_room.Goals as goal

pub loop-i-init : goal.loop-i-init
loop-i-init c = entering-none c.requires

pub enter-requires : goal.enter-requires
enter-requires c = record { held = c.loop-i.invariant.held; inside = omega arith }

pub returns-then-enter-clause-sought : goal.returns-then-enter-clause-sought
returns-then-enter-clause-sought c = (omega arith, c.loop-i.invariant.sought)

pub returns-then-enter-clause-entered : goal.returns-then-enter-clause-entered
returns-then-enter-clause-entered c =
    entering-repeat c.loop-i.invariant c.enter.ensures (omega arith) c.if-enter.true

pub loop-i-preserved : goal.loop-i-preserved
loop-i-preserved c = entering-more c.loop-i.invariant c.enter.ensures (omega arith) c.if-enter.false

pub returns-clause-sought : goal.returns-clause-sought
returns-clause-sought c = sought-last c.loop-i.invariant (omega arith)

pub returns-clause-entered : goal.returns-clause-entered
returns-clause-entered c = entering-all c.loop-i.invariant (omega arith)
