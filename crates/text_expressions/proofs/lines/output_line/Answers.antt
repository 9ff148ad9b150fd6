-- `text_expressions::lines::output_line` meets its contract.
use mathlib.Core.Path.{refl}
use native.Mathlib.Omega.{arith}
use Rattle.text_expressions.proofs.LineForms.{output-parts, output-left, output-read}
use Rattle.text_expressions.specs.Lines.{output_form}
use Rattle.text_expressions.proofs.lines.output_line.Goals as goal

pub slice_bounds-name_length-count : goal.slice_bounds-name_length-count
slice_bounds-name_length-count c =
    let start = c in
    let p = start.requires.by_index.1 in omega
    (arith, (output-parts start.args.s.now _ refl p.line p.rest p.here).long)

pub slice_bounds-name_length-start : goal.slice_bounds-name_length-start
slice_bounds-name_length-start c =
    let start = c in
    let p = start.requires.by_index.1 in omega
    (arith, (output-parts start.args.s.now _ refl p.line p.rest p.here).long)

pub overflow_add-at : goal.overflow_add-at
overflow_add-at c =
    let start = c in
    let a = start.args in let p = start.requires.by_index.1 in omega (
      arith,
      (output-parts a.s.now c.name_length-at.result c.name_length-at.ensures p.line p.rest p.here).long,
      start.ranges,
    )

pub slice_bounds-name_here-count : goal.slice_bounds-name_here-count
slice_bounds-name_here-count c =
    let start = c in
    let a = start.args in let p = start.requires.by_index.1 in (output-parts a.s.now c.name_length-at.result
    c.name_length-at.ensures p.line p.rest p.here).long

pub slice_bounds-name_here-start : goal.slice_bounds-name_here-start
slice_bounds-name_here-start c =
    let start = c in
    let a = start.args in let p = start.requires.by_index.1 in (output-parts a.s.now c.name_length-at.result
    c.name_length-at.ensures p.line p.rest p.here).long

pub slice_bounds-pack-count : goal.slice_bounds-pack-count
slice_bounds-pack-count c =
    let start = c in
    let p = start.requires.by_index.1 in omega
    (arith, (output-parts start.args.s.now _ refl p.line p.rest p.here).long)

pub slice_bounds-pack-start : goal.slice_bounds-pack-start
slice_bounds-pack-start c =
    let start = c in
    let p = start.requires.by_index.1 in omega
    (arith, (output-parts start.args.s.now _ refl p.line p.rest p.here).long)

pub put_output-requires : goal.put_output-requires
unfolding output_form
put_output-requires c =
    let start = c in
    let p = start.requires.by_index.1 in omega (arith, p.few, p.room)

pub overflow_sub-result : goal.overflow_sub-result
overflow_sub-result c =
    let s = c in
    let b = c in
    let l = c in
    let p = s.requires.by_index.1 in
    output-left s.args.s.now b.name_length-at.result b.name_length-at.ensures s.requires.by_index.0
    s.args.symbols.now.names.now s.args.symbols.now.words.now
    s.args.first s.args.unknown s.args.outputs.now l.name_here-shown.result l.name_here-shown.ensures
    p.bindings p.line p.rest p.table p.here

pub returns : goal.returns
returns c =
    let s = c in
    let b = c in
    let l = c in
    let at-pack = c in
    let at-put-output = c in
    λ n.
    output-read s.args.s.now b.name_length-at.result b.name_length-at.ensures n s.args.symbols.now.names.now
    s.args.symbols.now.words.now s.args.first
    s.args.unknown s.args.outputs.now l.name_here-shown.result l.name_here-shown.ensures
    at-put-output.put_output.new.outputs
    at-pack.pack.result at-pack.pack.ensures at-put-output.put_output.ensures
