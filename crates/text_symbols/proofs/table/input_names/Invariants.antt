-- `text_symbols::table::input_names` meets its contract: one line a turn, read from the rest of the text; the first n
-- lines are the inputs'.
use Rattle.text_symbols.specs.Tables.{NamesNow}
use Rattle.text_symbols.proofs.table.input_names.Given as goal

abbrev pub invariant-loop-i : goal.invariant-loop-i
invariant-loop-i l = NamesNow l.text l.n l.initial.inputs l.i l.at l.inputs
