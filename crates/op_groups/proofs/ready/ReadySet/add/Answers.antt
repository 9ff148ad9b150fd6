-- `op_groups::ready::ReadySet::add` meets its contract: one bit more.
use Prim.Native.Nat.{ℕ}
use native.Mathlib.Omega.{arith}
use lib.ListN.{length-set}
use Rattle.op_groups.proofs.Sets.{set-added}
use Rattle.op_groups.proofs.ready.ReadySet.add.Goals as goal

pub returns : goal.returns
returns c = record {
  added = set-added c.args.l c.args.self.now.words (omega arith);
  room = length-set {A = ℕ} c.args.self.now.words _ _;
}
