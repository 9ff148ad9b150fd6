-- `op_sheet::outputs::put_outputs` meets its contract: after o turns the first o outputs' pairs stand there.
use mathlib.Core.Path.{◌≡◌}
use Prim.Native.Nat.{◌≤◌}
use lib.ListN.{get_or}
use Rattle.netlist.specs.StoredBlock.{outputs_at}
use Rattle.op_sheet.specs.Records.{OutputsPut}
use Rattle.op_sheet.proofs.outputs.put_outputs.Given as goal

abbrev pub invariant-loop-o : goal.invariant-loop-o
invariant-loop-o l =
    let words = l.block.words.now in
    (l.n ≡ get_or words 0 0) × (l.at ≡ outputs_at (get_or words 0 0) (get_or words 3 0) (get_or words 1 0))
    × (l.count ≡ get_or words 2 0) × (l.o ≤ l.count) × OutputsPut words l.lanes l.o l.shown
