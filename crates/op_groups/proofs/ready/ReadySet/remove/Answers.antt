-- `op_groups::ready::ReadySet::remove` meets its contract: one bit turns.
use Prim.Native.Nat.{ℕ}
use native.Mathlib.Omega.{arith}
use lib.ListN.{length-set}
use Rattle.op_groups.proofs.Sets.{set-removed}
use Rattle.op_groups.proofs.ready.ReadySet.remove.Goals as goal

pub returns : goal.returns
returns c = record {
  removed = set-removed c.args.l c.args.self.now.words (omega arith) c.requires.1;
  room = length-set {A = ℕ} c.args.self.now.words _ _;
}
