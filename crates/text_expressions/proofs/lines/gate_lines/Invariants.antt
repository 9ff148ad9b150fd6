-- `text_expressions::lines::gate_lines` meets its contract: what is done so far and what the other lines add is what
-- all add.
use Rattle.std.specs.declared.option.Option.TheVariants.{None}
use Rattle.text_expressions.specs.Lines.{gate_form, LinesOn}
use Rattle.text_expressions.proofs.lines.gate_lines.Given as goal

abbrev pub invariant-loop-i : goal.invariant-loop-i
invariant-loop-i l =
    LinesOn gate_form l.lines l.text l.n l.symbols.names.now l.symbols.words.now None l.initial.gates l.i l.walked.left
    l.walked.number l.walked.unknown l.gates
