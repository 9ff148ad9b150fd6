-- `graph_gates::graph::Gate::place` meets its contract: the places of a legal gate are there.
use native.Mathlib.Omega.{arith}
use mathlib.Core.Path.{refl}
use Rattle.graph_gates.specs.Graph.{place_at}
use Rattle.graph_gates.proofs.graph.Gate.place.Goals as goal

pub returns : goal.returns
unfolding place_at
returns c = (refl, omega (arith, c.args.self.legal.inside c.args.i c.requires))
