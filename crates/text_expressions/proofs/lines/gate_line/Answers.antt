-- `text_expressions::lines::gate_line` meets its contract: its expression stands behind its name and a bracket.
use mathlib.Core.Path.{refl}
use native.Mathlib.Omega.{arith}
use Rattle.text_expressions.proofs.LineForms.{GateParts, gate-parts, gate-here, gate-left, gate-read}
use Rattle.text_expressions.proofs.lines.gate_line.Goals.{After-name_length-at}
use Rattle.text_expressions.proofs.lines.gate_line.Goals as goal

-- where the parts of the line stand
parts : (c : After-name_length-at) → let p = c.requires.line_here in
    GateParts p.line c.args.s.now p.rest c.name_length-at.result
parts c =
    let p = c.requires.line_here in
    gate-parts c.args.s.now c.name_length-at.result c.name_length-at.ensures p.line p.rest p.here

pub slice_bounds-name_length-count : goal.slice_bounds-name_length-count
slice_bounds-name_length-count c =
    let start = c in
    let p = start.requires.line_here in
    omega (arith, (gate-parts start.args.s.now _ refl p.line p.rest p.here).long)

pub slice_bounds-name_length-start : goal.slice_bounds-name_length-start
slice_bounds-name_length-start c =
    let start = c in
    let p = start.requires.line_here in
    omega (arith, (gate-parts start.args.s.now _ refl p.line p.rest p.here).long)

pub slice_bounds-expression-count : goal.slice_bounds-expression-count
slice_bounds-expression-count c = (parts (goal.at.slice_bounds-expression-count c).After-name_length-at).long

pub slice_bounds-expression-start : goal.slice_bounds-expression-start
slice_bounds-expression-start c = (parts (goal.at.slice_bounds-expression-start c).After-name_length-at).long

pub expression-one-requires : goal.expression-one-requires
expression-one-requires c =
    let named = c in
    let start = named in
    let a = start.args in record {
      term_here = gate-here a.s.now named.name_length-at.result named.name_length-at.ensures a.n a.symbols.now.names.now
          a.symbols.now.words.now a.first a.gates.now start.requires.line_here;
    }

pub overflow_sub-result : goal.overflow_sub-result
overflow_sub-result c =
    let read = c in
    let named = read in
    let a = named.args in
    gate-left a.s.now named.name_length-at.result named.name_length-at.ensures a.n a.symbols.now.names.now
    a.symbols.now.words.now a.first a.gates.now
    a.unknown read.expression-one.new.gates read.expression-one.result
    read.expression-one.ensures named.requires.line_here

pub returns : goal.returns
returns c =
    let read = c in
    let named = read in
    let a = named.args in
    gate-read a.s.now named.name_length-at.result named.name_length-at.ensures a.n a.symbols.now.names.now
    a.symbols.now.words.now a.first a.gates.now
    a.unknown read.expression-one.new.gates read.expression-one.result read.expression-one.ensures

pub overflow_add-at : goal.overflow_add-at
overflow_add-at c = omega (arith, (parts (goal.at.overflow_add-at c).After-name_length-at).long, c.well_formed)
