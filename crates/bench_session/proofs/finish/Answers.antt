-- `bench_session::finish` meets its contract: one case for each state. Assumes nothing.
use Rattle.bench_session.proofs.Steps.{netlist-ready, line-ready, netlist-ending, line-ending, over-ending}
use native.Mathlib.Omega.{arith}
use Rattle.bench_session.proofs.finish.Goals as goal

pub end_netlist-requires : goal.end_netlist-requires
end_netlist-requires c =
    let r = c.requires.room in
    let held = netlist-ready c.requires c.in-Netlist.is in
    (omega (arith, held.0, r.text_room), r.word_room, r.out_room, held.1)

pub end_line-requires : goal.end_line-requires
end_line-requires c = line-ready c.requires c.in-Lines.is

pub returns-in-Netlist : goal.returns-in-Netlist
returns-in-Netlist c =
    let x = c.args in
    netlist-ending x.text.now x.words.now x.line.now c.in-Netlist.is c.end_netlist.ensures

pub returns-in-Lines : goal.returns-in-Lines
returns-in-Lines c =
    let x = c.args in
    line-ending x.text.now x.words.now x.line.now c.in-Lines.is
    c.end_line.ensures

pub returns-in-Ended : goal.returns-in-Ended
returns-in-Ended c =
    let x = c.args in
    over-ending x.text.now x.words.now x.line.now _ c.in-Ended.is
