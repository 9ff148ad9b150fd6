-- `text_symbols::table::input_names` meets its contract: one line a turn, read from the rest of the text; the first n
-- lines are the inputs'.
use mathlib.Core.Path.{refl, ◌∙◌}
use native.Mathlib.Omega.{arith}
use Rattle.text_symbols.proofs.FillSteps.{names-start, name-start, name-sizes, names-next}
use Rattle.text_symbols.proofs.FillSteps.{names-sized, names-done}
use Rattle.text_symbols.proofs.TreeTable.{inputs-named}
use Rattle.text_symbols.proofs.table.input_names.Goals as goal

pub loop-i-init : goal.loop-i-init
loop-i-init c = names-start _ _ _

pub slice_bounds-line_of-count : goal.slice_bounds-line_of-count
slice_bounds-line_of-count c = name-start c.requires.short c.loop-i.invariant

pub slice_bounds-line_of-start : goal.slice_bounds-line_of-start
slice_bounds-line_of-start c = name-start c.requires.short c.loop-i.invariant

pub overflow_add-at : goal.overflow_add-at
overflow_add-at c =
    let line = c in
    let s = line in
    omega (arith, name-sizes s.requires.short line.loop-i.invariant refl line.line_of-line.ensures, s.requires.short)

pub overflow_add-at-in-loop-i : goal.overflow_add-at-in-loop-i
overflow_add-at-in-loop-i c =
    let line = c in
    let s = line in
    omega (arith, name-sizes s.requires.short line.loop-i.invariant refl line.line_of-line.ensures, s.requires.short)

pub loop-i-preserved : goal.loop-i-preserved
loop-i-preserved c =
    let line = c in
    let s = line in
    names-next s.requires.short line.loop-i.invariant refl line.line_of-line.ensures (omega arith)
    (omega (arith, s.requires.few, s.requires.room)) c.pack_at.ensures

pub returns : goal.returns
returns c =
    let s = c in
    record {
      sized =
          names-sized s.requires.short c.loop-i.invariant (omega (arith, s.requires.few, s.requires.room))
          ∙ s.requires.room;
      numbers = λ t p e. names-done s.requires.short c.loop-i.invariant (omega arith) ∙ rw e (inputs-named p);
    }
