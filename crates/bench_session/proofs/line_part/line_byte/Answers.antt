-- `bench_session::line_part::line_byte` meets its contract: one byte is one turn of the run. Assumes nothing.
use Rattle.bench_session.proofs.LineSteps.{turn_holds, turn-answers}
use Rattle.netlist.specs.Line.{lf}
use borrow.Author.Tests.{eq-eqb, ne_eqb}
use Rattle.bench_session.proofs.line_part.line_byte.Goals as goal

pub returns-then-byte-ne10 : goal.returns-then-byte-ne10
returns-then-byte-ne10 c =
    let x = c.args in
    λ text. turn_holds x.block.count x.held x.byte x.block.words.now x.line.now _ _ c.hold-kept.ensures
    c.requires.words_there
    c.requires.whole c.requires.prepared text _ (ne_eqb x.byte lf c.if-byte-ne10.true)

pub returns : goal.returns
returns c =
    let x = c.args in
    λ text. turn-answers x.block.count x.held x.byte x.block.words.now x.line.now _ _
    c.hold-kept.ensures c.requires.words_there c.requires.whole c.requires.prepared text _ _
    (eq-eqb x.byte lf c.if-byte-ne10.false) c.answer-written.ensures
