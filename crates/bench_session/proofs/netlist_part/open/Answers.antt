-- `bench_session::netlist_part::open` meets its contract: what Read tells of the netlist is the run's turn at its end,
-- and a block is prepared. Assumes nothing.
use mathlib.Core.Path.{sym}
use lib.ListN.{take}
use lib.Seq.{length-take-le}
use Rattle.bench_session.proofs.NetlistSteps.{read-refused, read-legal, read_done}
use Rattle.bench_session.proofs.netlist_part.open.Goals as goal

pub slice_bounds-block-end : goal.slice_bounds-block-end
slice_bounds-block-end c = (read-legal (take c.args.held c.args.text.now) c.args.words.now _ c.requires.1 _
    c.read.ensures c.in-Ok.done c.in-Ok.is).0

pub slice_bounds-block-end-in-Ok : goal.slice_bounds-block-end-in-Ok
slice_bounds-block-end-in-Ok c =
    let legal = read-legal (take c.args.held c.args.text.now) c.args.words.now _ c.requires.1 _ c.read.ensures
    c.in-Ok.done c.in-Ok.is in
    sym (length-take-le _ _ legal.0)

pub invariant_of-block : goal.invariant_of-block
invariant_of-block c =
    let legal =
    read-legal (take c.args.held c.args.text.now) c.args.words.now _ c.requires.1 _ c.read.ensures c.in-Ok.done c.in-Ok.is in
    record { well_formed = legal.1 }

pub returns-in-Err : goal.returns-in-Err
returns-in-Err c =
    λ line. read-refused (take c.args.held c.args.text.now) c.args.words.now _ c.requires.1
    _
    c.read.ensures c.in-Err.why c.in-Err.is
    _ _ _ line _ _ _ c.tell-written.ensures

pub returns-in-Ok : goal.returns-in-Ok
returns-in-Ok c =
    λ line. read_done (take c.args.held c.args.text.now) c.args.words.now _ c.requires.1 _
    c.read.ensures c.in-Ok.done c.in-Ok.is
    _ _ _ line _ c.prepare.ensures
