-- `text_lines::next_line` meets its contract.
use mathlib.Core.Path.{◌≡◌}
use native.Mathlib.Omega.{arith}
use lib.ListN.{drop, length-drop}
use Rattle.prelude.proofs.Elements.{rest-is-drop}
use Rattle.text_lines.specs.Lines.{length_with_lf}
use Rattle.text_lines.proofs.Scanning.{line_length-le}
use Rattle.text_lines.proofs.next_line.Goals as goal

pub overflow_add-result : goal.overflow_add-result
overflow_add-result c =
    let a = c.args in
    let e : c.line_length.result ≡ length_with_lf (drop a.at a.text.now) =
    rw (rest-is-drop a.text.now a.at) at c.line_length.ensures in
    omega (arith, line_length-le (drop a.at a.text.now), length-drop a.at a.text.now)

pub returns : goal.returns
returns c =
    let a = c.args in
    let e : c.line_length.result ≡ length_with_lf (drop a.at a.text.now) =
    rw (rest-is-drop a.text.now a.at) at c.line_length.ensures in
    rw e
