-- What a set line's reader answers: the first byte that no legal line has there. Assumes nothing.
use Rattle.std.specs.Prelude.{ℕ, List}
use Rattle.std.proofs.Math.Option.{Option}
use Rattle.netlist.specs.SetLine.{set_line_reader}
use Rattle.text_recogniser.specs.Readers.{bad_of}

-- refusal 2 of a set line with at most so many pairs
unfoldable pub first_bad_in_set_line : ℕ → List ℕ → Option ℕ
first_bad_in_set_line most line = bad_of line (set_line_reader most line)
