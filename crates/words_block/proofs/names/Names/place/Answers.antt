-- `words_block::names::Names::place` meets its contract: a name stands within the longest words.
use mathlib.Core.Path.{refl}
use native.Mathlib.Omega.{arith}
use Prim.Native.Nat.{◌≤◌, ◌+◌, ◌*◌}
use Rattle.words_block.proofs.NameLaws.{place-le}
use Rattle.words_block.proofs.names.Names.place.Goals.{Start}
use Rattle.words_block.proofs.names.Names.place.Goals as goal

near : (s : Start) → s.args.self.now.at + s.args.self.now.size * s.args.i ≤ 65535
near s = let n = s.args.self.now in place-le n.at n.size s.args.i n.near n.small s.requires

pub overflow_mul-result : goal.overflow_mul-result
overflow_mul-result c = omega (arith, near (goal.at.overflow_mul-result c).Start)

pub overflow_add-result : goal.overflow_add-result
overflow_add-result c = omega (arith, near (goal.at.overflow_add-result c).Start)

pub returns : goal.returns
returns c = (refl, near (goal.at.returns c).Start)
