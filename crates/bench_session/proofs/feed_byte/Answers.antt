-- `bench_session::feed_byte` meets its contract: one case for each state. Assumes nothing.
use Rattle.bench_session.proofs.Steps.{netlist-ready, line-ready, netlist-step, line_step, over-step}
use Rattle.bench_session.proofs.feed_byte.Goals as goal

pub netlist_byte-requires : goal.netlist_byte-requires
netlist_byte-requires c =
    let r = c.requires.room in
    let held = netlist-ready c.requires c.in-Netlist.is in
    (held.0, r.text_room, r.word_room, r.out_room, held.1)

pub line_byte-requires : goal.line_byte-requires
line_byte-requires c = line-ready c.requires c.in-Lines.is

pub returns-in-Netlist : goal.returns-in-Netlist
returns-in-Netlist c =
    let x = c.args in
    netlist-step x.text.now x.words.now x.line.now x.byte c.in-Netlist.is
    (c.netlist_byte.ensures _)

pub returns-in-Lines : goal.returns-in-Lines
returns-in-Lines c =
    let x = c.args in
    line_step x.text.now x.words.now x.line.now x.byte c.in-Lines.is
    (c.line_byte.ensures _)

pub returns-in-Ended : goal.returns-in-Ended
returns-in-Ended c =
    let x = c.args in
    over-step x.text.now x.words.now x.line.now x.byte _ _ _ c.in-Ended.is
