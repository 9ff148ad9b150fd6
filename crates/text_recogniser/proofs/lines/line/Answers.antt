-- `text_recogniser::lines::line` meets its contract: the bracket, the letter and the phase say which line's reader is
-- called.
use mathlib.Core.Path.{◌≡◌, sym, ap, ◌∙◌}
use native.Mathlib.Omega.{arith}
use Rattle.text_recogniser.specs.Readers.{scan_of}
use Rattle.text_recogniser.specs.Scan.{line_reader, line_behind}
use Rattle.text_recogniser.proofs.LineChoice.{chosen-input, chosen-never, chosen-gate, chosen-output}
use Rattle.text_recogniser.proofs.LineChoice.{line-none, rest_of, line-rest}
use Rattle.text_recogniser.proofs.lines.line.Goals.{After-byte_at-2}
use Rattle.text_recogniser.proofs.lines.line.Goals.{in_default-via-in-105+else-phase-eq0}
use Rattle.text_recogniser.proofs.lines.line.Goals.{in_default-via-in-110+else-phase-le1}
use Rattle.text_recogniser.proofs.lines.line.Goals.{in_default-via-in-103+else-phase-le2, in_default-via-in_default-1}
use Rattle.text_recogniser.proofs.lines.line.Goals as goal

behind : (c : After-byte_at-2)
    → scan_of (line_behind c.args.phase (rest_of c.args.s.now)) ≡ scan_of (line_reader c.args.phase c.args.s.now)
behind c = sym (ap scan_of (line-rest c.args.phase c.args.s.now c.byte_at.ensures c.if-byte_at-ne40.false))

pub returns-then-byte_at-ne40 : goal.returns-then-byte_at-ne40
returns-then-byte_at-ne40 c =
    sym (ap scan_of (line-none c.args.phase c.args.s.now c.byte_at.ensures c.if-byte_at-ne40.true))

pub returns-in-105 : goal.returns-in-105
returns-in-105 c =
    c.input_line.ensures
    ∙ sym (ap scan_of
    (chosen-input c.args.phase (rest_of c.args.s.now) c.byte_at-2.ensures c.in-105.is c.if-phase-eq0.true))
    ∙ behind (goal.at.returns-in-105 c).After-byte_at-2

pub returns-in-110 : goal.returns-in-110
returns-in-110 c =
    c.never_line.ensures
    ∙ sym (ap scan_of
    (chosen-never c.args.phase (rest_of c.args.s.now) c.byte_at-2.ensures (λ i p. omega arith) c.in-110.is
    c.if-phase-le1.true))
    ∙ behind (goal.at.returns-in-110 c).After-byte_at-2

pub returns-in-103 : goal.returns-in-103
returns-in-103 c =
    c.gate_line.ensures
    ∙ sym (ap scan_of
    (chosen-gate c.args.phase (rest_of c.args.s.now) c.byte_at-2.ensures (λ i p. omega arith) (λ i p. omega arith)
    c.in-103.is c.if-phase-le2.true))
    ∙ behind (goal.at.returns-in-103 c).After-byte_at-2

pub returns-in_default : goal.returns-in_default
returns-in_default c =
    let at = c.byte_at-2.ensures in
    let t = rest_of c.args.s.now in
    c.output_line.ensures
    ∙ sym (ap scan_of
    (elim c.in_default.branch [
      | in_default-via-in-105+else-phase-eq0 w ↦
          chosen-output c.args.phase t at (λ i p. w.if-phase-eq0.false p) (λ i p. omega (arith, w.in-105.is))
          (λ i p. omega (arith, w.in-105.is))
      | in_default-via-in-110+else-phase-le1 w ↦
          chosen-output c.args.phase t at (λ i p. omega (arith, w.in-110.is))
          (λ i p. omega (arith, w.if-phase-le1.false)) (λ i p. omega (arith, w.in-110.is))
      | in_default-via-in-103+else-phase-le2 w ↦
          chosen-output c.args.phase t at (λ i p. omega (arith, w.in-103.is)) (λ i p. omega (arith, w.in-103.is))
          (λ i p. omega (arith, w.if-phase-le2.false))
      | in_default-via-in_default-1 w ↦
          chosen-output c.args.phase t at (λ i p. omega arith) (λ i p. omega arith) (λ i p. omega arith)
    ]))
    ∙ behind (goal.at.returns-in_default c).After-byte_at-2
