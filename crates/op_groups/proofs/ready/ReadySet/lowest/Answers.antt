-- `op_groups::ready::ReadySet::lowest` meets its contract: no gate of the words passed is in the set.
use native.Mathlib.Omega.{arith}
use mathlib.Core.Path.{◌≡◌}
use Prim.Native.Nat.{◌+◌, ◌*◌}
use Rattle.prelude.specs.Lists.{least}
use Rattle.op_groups.specs.Ready.{in_set}
use lib.ListN.{length, get_or}
use Rattle.lanes_dual_rail.proofs.WordLaws.{lowest-marked, lowest-none}
use Rattle.op_groups.proofs.Sets.{empty-word, word-lowest, none-lowest}
use Rattle.op_groups.proofs.ready.ReadySet.lowest.Goals as goal

pub returns-in-Some : goal.returns-in-Some
returns-in-Some c =
    let words = c.args.self.now.words in
    let marked = lowest-marked _ c.in-Some.ensures in
    let found : 64 * c.loop-at.at + c.in-Some.bit ≡ least (in_set words) (64 * length words) =
    rw marked.0 (word-lowest words c.loop-at.at c.loop-at.invariant (omega arith) marked.2 (omega arith)) in
    (omega (arith, found, marked.1), found)

pub loop-at-preserved : goal.loop-at-preserved
loop-at-preserved c =
    let words = c.args.self.now.words in
    empty-word words c.loop-at.at c.loop-at.invariant
    (lowest-none {lanes = 64} (get_or words c.loop-at.at 0) (omega arith) (omega arith) c.in_default.ensures)

pub returns : goal.returns
returns c =
    let words = c.args.self.now.words in
    let room : length words ≡ 16 = omega arith in
    let end : c.loop-at.at ≡ 16 = omega arith in
    let none = none-lowest words c.loop-at.at c.loop-at.invariant (omega arith) in
    λ l. absurd (omega (arith, end, none, room))
