-- `op_compare::interface::are_same` meets its contract: the names passed are the same.
use mathlib.Core.Bool.{Bool}
use Prim.Native.Nat.{ℕ}
use borrow.Author.Rules.{rules}
use Rattle.prelude.proofs.Tested.{passes, fails}
use Rattle.op_compare.specs.Interface.{same_name_at}
use Rattle.op_compare.proofs.interface.are_same.Goals.{Start}
use Rattle.op_compare.proofs.interface.are_same.Goals as goal

abbrev test : (s : Start) → ℕ → Bool
test s = let a = s.args in same_name_at a.ours.now a.at a.theirs.now a.other a.size

pub returns-then-not-is_same : goal.returns-then-not-is_same
returns-then-not-is_same c =
    fails (test (goal.at.returns-then-not-is_same c).Start) c.args.count c.loop-i.i (search rules) c.is_same.ensures
    c.if-not-is_same.true-raw

pub loop-i-preserved : goal.loop-i-preserved
loop-i-preserved c =
    let at = (goal.at.loop-i-preserved c).Start in
    (search rules, passes (test at) c.loop-i.i c.loop-i.invariant.1 c.is_same.ensures c.if-not-is_same.false-raw)
