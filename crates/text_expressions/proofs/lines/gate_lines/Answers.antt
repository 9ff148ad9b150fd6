-- `text_expressions::lines::gate_lines` meets its contract: what is done so far and what the other lines add is what
-- all add.
use Prim.Native.Nat.{◌≤◌}
use mathlib.Core.Path.{◌≡◌}
use Rattle.std.specs.declared.option.Option.TheVariants.{None}
use lib.ListN.{length}
use Rattle.netlist.specs.Limits.{max_gates}
use Rattle.text_expressions.specs.Lines.{gate_form}
use Rattle.text_expressions.proofs.LineForms.{gate-lawful}
use Rattle.text_expressions.proofs.LineSteps.{line-here, lines-kept, lines_step, lines_end}
use Rattle.text_expressions.proofs.lines.gate_lines.Goals.{After-gate_line-walked}
use Rattle.text_expressions.proofs.lines.gate_lines.Goals as goal

kept : (c : After-gate_line-walked) → (c.gate_line-walked.result.left ≤ length c.args.text.now)
    × (length c.gate_line-walked.new.gates ≡ length c.args.gates.now)
kept c =
    let start = c in
    let a = start.args in
    let l = c.loop-i in
    lines-kept gate_form gate-lawful a.lines a.text.now a.n a.symbols.now.names.now a.symbols.now.words.now None
    a.gates.now l.i l.walked.left l.walked.number
    l.walked.unknown l.gates l.invariant c.gate_line-walked.new.gates c.gate_line-walked.result
    c.gate_line-walked.ensures max_gates start.requires.lines_here c.loop-i-test.true

pub gate_line-walked-requires : goal.gate_line-walked-requires
gate_line-walked-requires c =
    let in-loop = c in
    let start = in-loop in
    let a = start.args in
    let l = in-loop.loop-i in record {
      line_here = line-here gate_form gate-lawful a.lines a.text.now a.n a.symbols.now.names.now
          a.symbols.now.words.now None a.gates.now
          l.i l.walked.left l.walked.number
          l.walked.unknown l.gates l.invariant max_gates start.requires.lines_here in-loop.loop-i-test.true;
    }

pub loop-i-preserved : goal.loop-i-preserved
loop-i-preserved c =
    let a = c.args in
    let l = c.loop-i in
    let g = c.gate_line-walked in
    lines_step gate_form gate-lawful a.lines a.text.now a.n a.symbols.now.names.now a.symbols.now.words.now None
    a.gates.now
    l.i l.walked.left l.walked.number
    l.walked.unknown l.gates l.invariant g.new.gates g.result g.ensures (kept (goal.at.loop-i-preserved c).After-gate_line-walked)
    c.loop-i-test.true

pub returns : goal.returns
returns c =
    let a = c.args in
    let l = c.loop-i in
    lines_end gate_form gate-lawful a.lines a.text.now a.n a.symbols.now.names.now a.symbols.now.words.now None
    a.gates.now
    l.i l.walked.left l.walked.number l.walked.unknown l.gates l.invariant c.loop-i-test.false
