-- `text_expressions::lines::output_lines` meets its contract: what is done so far and what the other lines add is what
-- all add.
use native.Mathlib.Omega.{arith}
use Rattle.netlist.specs.Limits.{max_outputs}
use Rattle.text_expressions.specs.Lines.{output_form}
use Rattle.text_expressions.proofs.LineForms.{output-lawful}
use Rattle.text_expressions.proofs.LineSteps.{line-here, lines-kept, lines_step, lines_end}
use Rattle.text_expressions.proofs.lines.output_lines.Goals as goal

pub output_line-walked-requires : goal.output_line-walked-requires
output_line-walked-requires c =
    let start = c in
    let b = c in
    let a = start.args in
    let p = start.requires in
    let n = p.by_index.0 in
    let l = b.loop-i in record {
      by_index = (
        n,
        line-here output_form output-lawful a.lines a.text.now n a.symbols.now.names.now a.symbols.now.words.now a.seen
            a.outputs.now l.i l.walked.left
            l.walked.number l.walked.unknown l.outputs (l.invariant n) max_outputs p.by_index.1 b.loop-i-test.true,
      );
    }

pub loop-i-preserved : goal.loop-i-preserved
loop-i-preserved c =
    let start = c in
    let in-loop = c in
    let at-loop = in-loop in
    λ n.
    let a = start.args in
    let l = at-loop.loop-i in
    let g = c.output_line-walked in
    let m = start.requires.by_index.0 in
    lines_step output_form output-lawful a.lines a.text.now n a.symbols.now.names.now a.symbols.now.words.now a.seen
    a.outputs.now l.i l.walked.left l.walked.number
    l.walked.unknown l.outputs (l.invariant n) g.new.outputs g.result (g.ensures n)
    (lines-kept output_form output-lawful a.lines a.text.now m a.symbols.now.names.now a.symbols.now.words.now a.seen
    a.outputs.now l.i l.walked.left l.walked.number
    l.walked.unknown l.outputs (l.invariant m) g.new.outputs g.result (g.ensures m) max_outputs
    start.requires.by_index.1 in-loop.loop-i-test.true) in-loop.loop-i-test.true

pub returns : goal.returns
returns c =
    let start = c in
    λ n.
    let a = start.args in
    let l = c.loop-i in
    lines_end output_form output-lawful a.lines a.text.now n a.symbols.now.names.now a.symbols.now.words.now a.seen
    a.outputs.now l.i l.walked.left l.walked.number l.walked.unknown l.outputs (l.invariant n) c.loop-i-test.false

pub overflow_sub-rest : goal.overflow_sub-rest
overflow_sub-rest c = omega (arith, (c.loop-i.invariant 0).within)
