-- `graph_scc::layers::write_one_layer` meets its contract: gate after gate is written.
use mathlib.Core.Path.{◌≡◌}
use lib.ListN.{length}
use Rattle.netlist.specs.Limits.{max_gates}
use Rattle.graph_scc.specs.Search.{OneLayer}
use Rattle.graph_scc.proofs.layers.write_one_layer.Given as goal

abbrev pub invariant-loop-i : goal.invariant-loop-i
invariant-loop-i l = (length l.order ≡ max_gates) × (length l.ends ≡ max_gates) × OneLayer l.m l.i l.order l.ends
