-- `graph_scc::closure::Edges::reach_from` meets its contract: the set grows from one gate.
use Prim.Native.Nat.{◌≤◌}
use native.Mathlib.Omega.{arith}
use lib.ListN.{length}
use Rattle.graph_scc.proofs.Leader.{filled}
use Rattle.graph_scc.proofs.Reaching.{growing-start}
use Rattle.graph_scc.proofs.closure.Edges.reach_from.Goals as goal

pub grow-requires : goal.grow-requires
grow-requires c =
    let a = c.args in
    let g = a.self.now.graph in
    let room : g.gates ≤ length a.flags.now = omega (arith, g.legal.few) in
    let f = filled g.gates 0 a.flags.now room c.fill_words.ensures in (
      c.requires,
      growing-start _ _ _ _ c.fill_words.new.words (omega (arith, f.0)) (omega (arith, c.requires, g.legal.few)) f.1,
    )
