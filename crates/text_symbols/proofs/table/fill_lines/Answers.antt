-- `text_symbols::table::fill_lines` meets its contract: one line a turn, read from the rest of the text.
use Prim.Native.Nat.{◌+◌, ◌≤◌}
use mathlib.Core.Path.{refl}
use native.Mathlib.Omega.{arith}
use lib.ListN.{length}
use Rattle.text_symbols.proofs.FillSteps.{fill_start, line-start, line-sizes, fill-next}
use Rattle.text_symbols.proofs.FillSteps.{line_word-le}
use Rattle.text_symbols.proofs.table.fill_lines.Goals.{After-line_of-line}
use Rattle.text_symbols.proofs.table.fill_lines.Goals as goal

sizes : (c : After-line_of-line) → let l = c.loop-i in
    let line = c.line_of-line.result in
    (l.at + line.length ≤ length c.args.text.now)
    × (l.gates + line.gates ≤ length c.args.text.now)
    × (line.name ≤ 6)
sizes c = line-sizes c.requires c.loop-i.invariant refl c.line_of-line.ensures

pub loop-i-init : goal.loop-i-init
loop-i-init c = fill_start _ _ _ _ _ _ _

pub slice_bounds-line_of-count : goal.slice_bounds-line_of-count
slice_bounds-line_of-count c = line-start c.requires c.loop-i.invariant

pub slice_bounds-line_of-start : goal.slice_bounds-line_of-start
slice_bounds-line_of-start c = line-start c.requires c.loop-i.invariant

pub overflow_add-gates : goal.overflow_add-gates
overflow_add-gates c = omega (arith, sizes (goal.at.overflow_add-gates c).After-line_of-line, c.requires.short)

pub overflow_add-places : goal.overflow_add-places
overflow_add-places c = omega (arith, sizes (goal.at.overflow_add-places c).After-line_of-line, c.requires.short)

pub line_word-requires : goal.line_word-requires
line_word-requires c =
    let s = c in
    (s.requires.few, omega (arith, sizes (goal.at.line_word-requires c).After-line_of-line, s.requires.short))

pub overflow_cast-words : goal.overflow_cast-words
overflow_cast-words c =
    let line = c in
    let s = line in
    let l = line.loop-i in
    omega (
      arith,
      c.line_word.ensures,
      line_word-le s.args.n (s.args.first + l.i) (l.gates + line.line_of-line.result.gates),
      sizes (goal.at.overflow_cast-words c).After-line_of-line,
      s.requires.short,
      s.requires.few,
    )

pub overflow_add-at : goal.overflow_add-at
overflow_add-at c =
    let line = c in
    omega (arith, sizes (goal.at.overflow_add-at c).After-line_of-line, line.requires.short)

pub loop-i-preserved : goal.loop-i-preserved
loop-i-preserved c =
    let line = c in
    fill-next line.requires line.loop-i.invariant refl line.line_of-line.ensures (omega arith) refl
    c.line_word.ensures
