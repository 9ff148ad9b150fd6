-- `bench_session::netlist_part::end_netlist` meets its contract. Assumes nothing.
use mathlib.Core.List.{[]}
use lib.ListN.{take}
use Rattle.netlist.specs.Operations.{read_text}
use Rattle.bench_session.proofs.NetlistSteps.{opened-ends}
use Rattle.bench_session.proofs.netlist_part.end_netlist.Goals as goal

pub returns : goal.returns
returns c =
    rw (← opened-ends (read_text (take c.args.held c.args.text.now))) (c.open-fed.ensures []).output
