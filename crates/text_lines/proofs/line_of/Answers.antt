-- `text_lines::line_of` meets its contract: a line's brackets are those among its bytes.
use mathlib.Core.Path.{◌≡◌, ◌∙◌}
use native.Mathlib.Omega.{arith}
use Rattle.text_lines.specs.Lines.{line_opens}
use Rattle.text_lines.proofs.Scanning.{line_length-le, line-part, opens-within}
use Rattle.text_lines.proofs.line_of.Goals as goal

pub slice_bounds-count-end : goal.slice_bounds-count-end
slice_bounds-count-end c =
    let line = c in line-part line.args.s.now line.line_length-length.ensures

pub count-requires : goal.count-requires
count-requires c =
    let line = c in
    let s = line.args.s.now in
    let e = line.line_length-length.ensures in
    omega (arith, line_length-le s, line-part s e)

pub returns : goal.returns
returns c =
    let counted = c in
    let named = counted in
    let line = named in
    let s = line.args.s.now in
    let e : counted.count.result ≡ line_opens s =
    rw line.line_length-length.ensures at counted.count.ensures ∙ opens-within s in
    record {
      length = line.line_length-length.ensures;
      name = rw (← named.byte_at.ensures) named.name_offset-name.ensures;
      gates = omega (arith, e, c.saturating_sub.ensures);
    }
