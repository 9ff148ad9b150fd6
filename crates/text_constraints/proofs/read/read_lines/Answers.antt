-- `text_constraints::read::read_lines` meets its contract: one line a turn; the first place that a line tells is kept.
-- Assumes nothing.
use Prim.Native.Nat.{◌+◌, ◌≤◌}
use native.Mathlib.Omega.{arith}
use lib.ListN.{length}
use Rattle.text_constraints.proofs.LineWalk.{reading-start, line-there, line-ready, reading-next}
use Rattle.text_constraints.proofs.LineWalk.{reading-done, first-of_and}
use Rattle.text_constraints.proofs.read.read_lines.Goals.{In-loop-i}
use Rattle.text_constraints.proofs.read.read_lines.Goals as goal

-- its place is in the text
there : (c : In-loop-i) → c.loop-i.at + 8 ≤ length c.args.text.now
there c = line-there c.requires c.loop-i.invariant (omega arith)

pub loop-i-init : goal.loop-i-init
loop-i-init c = reading-start c.requires

pub read_line-line-requires : goal.read_line-line-requires
read_line-line-requires c =
    let l = c in line-ready l.requires l.loop-i.invariant (omega arith)

pub loop-i-preserved : goal.loop-i-preserved
loop-i-preserved c =
    let told = c in
    let line = told in
    let l = line in
    reading-next l.requires l.loop-i.invariant (omega arith) line.read_line-line.ensures
    (first-of_and _ _ told.and-repeat.ensures) (first-of_and _ _ told.and-outside.ensures)
    c.next_line-at.ensures

pub returns : goal.returns
returns c = reading-done c.requires c.loop-i.invariant (omega arith)

pub slice_bounds-read_line-count : goal.slice_bounds-read_line-count
slice_bounds-read_line-count c = omega (arith, there (goal.at.slice_bounds-read_line-count c).In-loop-i)

pub slice_bounds-read_line-start : goal.slice_bounds-read_line-start
slice_bounds-read_line-start c = omega (arith, there (goal.at.slice_bounds-read_line-start c).In-loop-i)

pub next_line-at-requires : goal.next_line-at-requires
next_line-at-requires c = omega (arith, there (goal.at.next_line-at-requires c).In-loop-i)
