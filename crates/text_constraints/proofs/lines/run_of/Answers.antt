-- `text_constraints::lines::run_of` meets its contract: the lines that are left, of those that stand there, are passed
-- one by one. Each has bytes of its own, so the place and the count stay within the text. Assumes nothing.
use mathlib.Core.Path.{◌≡◌}
use mathlib.Core.Bool.{true}
use native.Mathlib.Omega.{arith}
use lib.ListN.{drop}
use Rattle.text_constraints.specs.Runs.{lettered}
use Rattle.text_constraints.proofs.RunLaws.{run-next, run_ends, run-counts, letter-there}
use Rattle.text_constraints.proofs.RunLaws.{no-letter, next-inside, next-further}
use Rattle.text_constraints.proofs.lines.run_of.Goals.{In-loop-end}
use Rattle.text_constraints.proofs.lines.run_of.Goals as goal

-- a line with the letter stands at the place of a turn
there : (c : In-loop-end) → let l = c in
    lettered l.args.letter (drop l.loop-end.end l.args.text.now) ≡ true
there c =
    let l = c in
    let s = l in
    letter-there s.args.letter s.args.text.now l.loop-end.end s.requires.some c.byte_at.ensures
    c.loop-end-test.true

pub loop-end-preserved : goal.loop-end-preserved
loop-end-preserved c =
    let a = c.args in
    let now' = c.loop-end.invariant in
    let line = there (goal.at.loop-end-preserved c).In-loop-end in
    record {
      inside = omega (arith, c.next_line-end.ensures, next-inside a.letter a.text.now c.loop-end.end line);
      few = omega (arith, c.next_line-end.ensures, next-further a.letter a.text.now c.loop-end.end line, now'.few);
      left = λ ls r. run-next (now'.left ls r) line c.next_line-end.ensures;
    }

pub returns : goal.returns
returns c =
    let l = c in
    let s = l in
    let none =
    no-letter s.args.letter s.args.text.now l.loop-end.end s.requires.some c.byte_at.ensures
    c.loop-end-test.false in
    record {
      inside = l.loop-end.invariant.inside;
      ends = λ ls r. run_ends (l.loop-end.invariant.left ls r) none;
      counted = λ ls r. run-counts (l.loop-end.invariant.left ls r) none;
    }
