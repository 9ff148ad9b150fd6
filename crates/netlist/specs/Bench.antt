-- The bench (SPECIFICATION 8.2): a netlist text, an empty line and set lines in, a show line or a refusal's line for
-- each set line out; first the answer to one line, then the whole run.
use Rattle.std.specs.Prelude.{ℕ, ◌-◌, Bool, true, cond, ◌&&◌, List, [], ◌∷◌, ◌++◌, map, length, eqb}
use Rattle.prelude.specs.Lists.{ascii, joined}
use Rattle.netlist.specs.declared.Refusal.TheVariants.{SyntaxError, DuplicateDeclaration, UndeclaredName}
use Rattle.netlist.specs.declared.Refusal.TheVariants.{MalformedBlock}
use Rattle.netlist.specs.Values.{Value}
use Rattle.netlist.specs.Netlist.{Output, Block, input_count}
use Rattle.netlist.specs.StoredBlock.{decode, is_malformed}
use Rattle.netlist.specs.Rounds.{settled, output_value}
use Rattle.netlist.specs.Parse.{Parsed, got, stuck}
use Rattle.netlist.specs.Reading.{Mention, mentions, pair_mention, first_repeat, first_outside, given_value}
use Rattle.netlist.specs.Line.{lf}
use Rattle.netlist.specs.Syntax.{Pair, pair_text, print_pair}
use Rattle.netlist.specs.SetLine.{set_line_reader}
use Rattle.netlist.specs.Answers.{Outcome, done, refused, refuse_if, refuse_at, in_room}
use Rattle.netlist.specs.Operations.{counted, read_text}
use Rattle.netlist.specs.Program.{refusal_line, shown}

-- ---- the names of a set line, with their places in that line

unfoldable pub given_names : List Pair → List Mention
given_names ps = mentions print_pair pair_mention ps (length (ascii "(set"))

-- ---- what it gives the inputs, and what the ports show of it

unfoldable pub given_values : Block → List Pair → List Value
given_values b ps = map (given_value ps) b.inputs

unfoldable pub port_text : List Value → List Value → Output → List ℕ
port_text x state o = pair_text o.port (output_value x state o) []

-- `(show (PORT VALUE) ...)` and LF, from the inputs' values
unfoldable pub show_line : Block → List Value → List ℕ
show_line b x = ascii "(show" ++ (joined (map (port_text x (settled b x)) b.outputs) ++ ascii ")\n")

-- ---- the answer to one line (2, 4, 5): the bytes of its show line; count: bytes

unfoldable pub pairs_outcome : Block → List Pair → Outcome
pairs_outcome b ps =
    refuse_at (first_repeat [] (given_names ps)) DuplicateDeclaration
    (refuse_at (first_outside b.inputs (given_names ps)) UndeclaredName
    (counted (show_line b (given_values b ps))))

-- refusal 2 of a set line: the place is the number of bytes before the bad one
unfoldable pub parsed_outcome : Block → List ℕ → Parsed (List Pair) → Outcome
parsed_outcome b line (stuck left) = refused (SyntaxError (length line - left))
parsed_outcome b line (got ps rest) = pairs_outcome b ps

unfoldable pub line_outcome : Block → List ℕ → Outcome
line_outcome b line = parsed_outcome b line (set_line_reader (input_count b) line)

-- the answer to a line, for the words of a block and a slice for the result (6, 2, 4, 5, 11)
unfoldable pub answer_line : List ℕ → List ℕ → ℕ → Outcome
answer_line ws line room =
    in_room room
    (refuse_if (is_malformed ws) MalformedBlock
    (line_outcome (decode ws) line))

-- the bytes that the bench writes for a line: the show line, or the refusal's
unfoldable pub line_answer : Block → List ℕ → List ℕ
line_answer b line = shown (line_outcome b line)

-- ---- the whole input: the netlist ends before the first LF at the input's beginning or behind an LF, or with the
-- input

-- `fresh`: at the input's beginning or behind an LF
unfoldable pub netlist_from : Bool → List ℕ → List ℕ
netlist_from fresh [] = []
netlist_from fresh (c ∷ s) = cond (fresh && eqb c lf) [] (c ∷ netlist_from (eqb c lf) s)

-- what stands behind the empty line that ends the netlist
unfoldable pub settings_from : Bool → List ℕ → List ℕ
settings_from fresh [] = []
settings_from fresh (c ∷ s) = cond (fresh && eqb c lf) s (settings_from (eqb c lf) s)

unfoldable pub netlist_part : List ℕ → List ℕ
netlist_part input = netlist_from true input

unfoldable pub settings_part : List ℕ → List ℕ
settings_part input = settings_from true input

-- the last line, which has no LF; an empty one is no line
unfoldable pub last_line : List ℕ → List (List ℕ)
last_line [] = []
last_line (c ∷ s) = (c ∷ s) ∷ []

-- the lines, each with its LF; `before` stands at the beginning of the first
unfoldable pub lines_from : List ℕ → List ℕ → List (List ℕ)
lines_from before [] = last_line before
lines_from before (c ∷ s) =
    cond (eqb c lf) ((before ++ (c ∷ [])) ∷ lines_from [] s) (lines_from (before ++ (c ∷ [])) s)

unfoldable pub lines_of : List ℕ → List (List ℕ)
lines_of s = lines_from [] s

unfoldable pub line_answers : Block → List (List ℕ) → List ℕ
line_answers b ls = joined (map (line_answer b) ls)

-- all answers of a run, from what Read made of the netlist: a refused netlist ends the run
unfoldable pub bench_after : Outcome → List (List ℕ) → List ℕ
bench_after (done ws count detail) ls = line_answers (decode ws) ls
bench_after (refused r) ls = refusal_line r

-- all that is written when this input is read
unfoldable pub bench : List ℕ → List ℕ
bench input = bench_after (read_text (netlist_part input)) (lines_of (settings_part input))
