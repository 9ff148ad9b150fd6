-- `pairs::next_ones` meets its contract: one law for each of its two answers.
use Prim.Native.Nat.{◌+◌, ◌-◌, ◌*◌, ◌%◌, ◌^◌}
use native.Mathlib.Omega.{arith}
use lib.Bits.{and_le_r}
use Rattle.op_cover.proofs.Bounds.{shifted}
use Rattle.op_cover.proofs.PairWalk.{next_row, next-in-row}
use Rattle.op_cover.proofs.pairs.next_ones.Goals as goal

pub returns-then-ones-fixed : goal.returns-then-ones-fixed
returns-then-ones-fixed c =
    let pre = c.requires in
    (omega (arith, shifted pre.0), next_row pre.1 pre.2 pre.3 (shifted pre.0) c.if-ones-fixed.true)

pub returns : goal.returns
returns c =
    let pre = c.requires in
    let seen = and_le_r (c.args.ones + 1 * 2 ^ c.args.n % 2 ^ 64 - c.args.fixed) c.args.fixed in
    (omega (arith, seen, pre.1), next-in-row pre.1 pre.2 pre.3 (shifted pre.0) c.if-ones-fixed.false)
