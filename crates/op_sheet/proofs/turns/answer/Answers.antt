-- `op_sheet::turns::answer` meets its contract: the record as it was, or the answer.
use mathlib.Core.Path.{refl}
use Prim.Native.Nat.{◌-◌, ◌%◌}
use borrow.Author.Tests.{lt-ltb, le-ltb}
use Rattle.netlist.specs.Sheet.{answered_record}
use Rattle.op_sheet.specs.Order.{reads_at, size_at, turned, Answerable}
use Rattle.op_sheet.proofs.turns.answer.Goals.{Else-s-size}
use Rattle.op_sheet.proofs.turns.answer.Goals as goal

-- what a turn that answers asks
answerable : (c : Else-s-size) → let a = c.args in
    Answerable a.words.now (a.t % 128 - size_at a.count a.t) a.asked.fixed a.asked.ones a.batch.shown
unfolding reads_at
answerable c = c.requires.answerable (rw (← c.size_at-size.ensures) (le-ltb _ _ c.if-s-size.false))

pub returns-then-s-size : goal.returns-then-s-size
unfolding turned reads_at
returns-then-s-size c = rw (← c.size_at-size.ensures, lt-ltb _ _ c.if-s-size.true) refl

pub invariant_of-block : goal.invariant_of-block
invariant_of-block c = record { well_formed = (answerable (goal.at.invariant_of-block c).Else-s-size).whole }

pub answer_lane-requires : goal.answer_lane-requires
answer_lane-requires c = rw c.size_at-size.ensures (answerable (goal.at.answer_lane-requires c).Else-s-size)

pub returns : goal.returns
unfolding turned reads_at answered_record
returns c = rw (← c.size_at-size.ensures, le-ltb _ _ c.if-s-size.false) c.answer_lane.ensures
