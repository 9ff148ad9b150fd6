-- `words_layout::nodes::gate_named` meets its contract: each way out is one of the definition's cases.
use native.Mathlib.Omega.{arith}
use mathlib.Core.Path.{refl}
use Prim.Native.Nat.{◌+◌}
use borrow.Author.Tests.{lt-ltb, le-ltb}
use Rattle.words_layout.specs.Nodes.{gate_named}
use Rattle.words_layout.proofs.nodes.gate_named.Goals as goal

pub returns-then-word-n : goal.returns-then-word-n
unfolding gate_named
returns-then-word-n c = rw (lt-ltb _ _ c.if-word-n.true) (omega arith)

pub returns-then-word-n-2 : goal.returns-then-word-n-2
unfolding gate_named
returns-then-word-n-2 c =
    let a = c.args in
    let l = c.if-word-n-2.true in
    rw (le-ltb _ _ c.if-word-n.false, lt-ltb a.word (a.n + a.m) (omega arith)) (l, refl)

pub returns-else-word-n-2 : goal.returns-else-word-n-2
unfolding gate_named
returns-else-word-n-2 c =
    let a = c.args in
    let l = c.if-word-n-2.false in
    rw (le-ltb _ _ c.if-word-n.false, le-ltb a.word (a.n + a.m) (omega arith)) (omega arith)
