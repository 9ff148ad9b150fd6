-- The bench (SPECIFICATION 8.2): a set line `(set (NAME VALUE) ...)` with its LF; its tree is the list of its pairs.
-- What it looks like, which are legal for a number of inputs, and the reader.
use Rattle.std.specs.Prelude.{ℕ, Bool, ◌&&◌, List, ◌++◌, length, leb}
use Rattle.prelude.specs.Lists.{ascii, all}
use Rattle.netlist.specs.Syntax.{Pair, print_pair, is_legal_pair, print_lines, LegalOf, ViableOf, FirstBadOf}
use Rattle.netlist.specs.Parse.{Reader, expect, bind, nothing_behind, pairs_reader}

unfoldable pub print_set_line : List Pair → List ℕ
print_set_line ps = ascii "(set" ++ print_lines print_pair ps (ascii ")\n")

-- at most as many pairs stand in a set line as there are inputs
unfoldable pub is_legal_set_line : ℕ → List Pair → Bool
is_legal_set_line n ps = leb (length ps) n && all is_legal_pair ps

-- a legal set line for n inputs; how one begins; and the place where a line that is none breaks
abbrev pub LegalLine : ℕ → List ℕ → Type 0
LegalLine n = LegalOf (is_legal_set_line n) print_set_line

abbrev pub ViableLine : ℕ → List ℕ → Type 0
ViableLine n = ViableOf (is_legal_set_line n) print_set_line

abbrev pub FirstBadInLine : ℕ → List ℕ → ℕ → Type 0
FirstBadInLine n = FirstBadOf (is_legal_set_line n) print_set_line

-- a set line for n inputs: its LF belongs to it, and nothing stands behind that
unfoldable pub set_line_reader : ℕ → Reader (List Pair)
set_line_reader n =
    expect (ascii "(set") (bind (pairs_reader n 0) (λ ps. expect (ascii "\n") (nothing_behind ps)))
