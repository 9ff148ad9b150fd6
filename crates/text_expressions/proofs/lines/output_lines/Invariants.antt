-- `text_expressions::lines::output_lines` meets its contract: what is done so far and what the other lines add is what
-- all add.
use Prim.Native.Nat.{ℕ}
use Rattle.text_expressions.specs.Lines.{output_form, LinesOn}
use Rattle.text_expressions.proofs.lines.output_lines.Given as goal

abbrev pub invariant-loop-i : goal.invariant-loop-i
invariant-loop-i l =
    (n : ℕ) → LinesOn output_form l.lines l.text n l.symbols.names.now l.symbols.words.now l.fn.seen
    l.initial.outputs l.i l.walked.left l.walked.number l.walked.unknown l.outputs
