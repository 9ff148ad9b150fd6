-- `text_symbols::table::fill_lines` meets its contract: one line a turn, read from the rest of the text.
use Rattle.text_symbols.specs.Tables.{FillNow}
use Rattle.text_symbols.proofs.table.fill_lines.Given as goal

abbrev pub invariant-loop-i : goal.invariant-loop-i
invariant-loop-i l =
    FillNow l.text l.from l.n l.first l.lines l.initial.places l.initial.words l.i l.at l.gates l.places l.words
