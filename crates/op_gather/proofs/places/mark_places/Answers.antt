-- `op_gather::places::mark_places` meets its contract: the first t numbers are marked, each at its place, and a number
-- that is not below m or is marked already is not in a list of each once.
use mathlib.Core.Path.{◌≡◌}
use native.Mathlib.Omega.{arith}
use lib.ListN.{length}
use Rattle.op_gather.proofs.Marks.{places-high, places-again, places-all, marked_next}
use Rattle.op_gather.proofs.places.mark_places.Goals as goal

pub returns-then-m-j : goal.returns-then-m-j
returns-then-m-j c =
    let l = c.loop-t in
    places-high _ _ l.t l.places l.invariant c.loop-t-test.true c.if-m-j.true

pub returns-then-places-j : goal.returns-then-places-j
returns-then-places-j c =
    let l = c.loop-t in
    places-again _ _ l.t l.places l.invariant c.loop-t-test.true c.if-m-j.false c.if-places-j.true

pub loop-t-preserved : goal.loop-t-preserved
loop-t-preserved c =
    let l = c.loop-t in
    marked_next _ _ l.t l.places l.invariant c.loop-t-test.true c.if-m-j.false c.if-places-j.false

pub returns : goal.returns
returns c =
    let all : c.loop-t.t ≡ length c.args.order.now = omega arith in
    places-all _ _ c.loop-t.places c.requires.length_is (rw all at c.loop-t.invariant)
