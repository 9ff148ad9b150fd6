-- `bench_session::feed` meets its contract: what was taken so far led the run here, and until something is answered
-- nothing is written. Assumes nothing.
use Rattle.bench_session.proofs.Bytes.{at-start, one_byte, fed}
use native.Mathlib.Omega.{arith}
use mathlib.Core.Path.{refl}
use mathlib.Core.Logic.{inr}
use Rattle.bench_session.proofs.feed.Goals as goal

pub loop-taken-init : goal.loop-taken-init
loop-taken-init c = (at-start _ c.requires, refl, refl, refl, refl)

pub loop-taken-preserved : goal.loop-taken-preserved
loop-taken-preserved c =
    let none = c.if-written-eq0.true in (
      one_byte c.loop-taken.invariant.0 c.loop-taken-test.true none c.feed_byte-fed.ensures
          (record { text_room = omega arith; word_room = omega arith; line_room = omega arith; out_room = omega arith }),
      omega arith,
      omega arith,
      omega arith,
      omega arith,
    )

pub returns-else-written-eq0 : goal.returns-else-written-eq0
returns-else-written-eq0 c = let l = c.loop-taken in fed l.invariant.0 (inr (c.if-written-eq0.false))
