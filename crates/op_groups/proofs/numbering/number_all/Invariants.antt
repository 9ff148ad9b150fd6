-- `op_groups::numbering::number_all` meets its contract: each turn gives the next group its number.
use Prim.Native.Nat.{◌≤◌}
use lib.ListN.{length}
use Rattle.netlist.specs.Groups.{groups}
use Rattle.graph_gates.specs.Graph.{network}
use Rattle.op_groups.specs.Numbering.{NumberedUpTo}
use Rattle.op_groups.specs.Waiting.{all_open, Waiting}
use Rattle.op_groups.proofs.numbering.number_all.Given as goal

abbrev pub invariant-loop-g : goal.invariant-loop-g
invariant-loop-g l =
    record {
      within : l.g ≤ length (groups (network l.groups.graph.gates l.groups.graph.words.now));
      numbered : NumberedUpTo l.groups.graph.gates l.groups.graph.words.now l.g l.numbers;
      waiting : Waiting l.groups.graph.gates l.groups.leaders.now l.numbers l.groups.graph.gates
          (all_open l.groups.graph.words.now l.groups.leaders.now l.numbers) l.waiting.counts l.waiting.ready.words;
    }
