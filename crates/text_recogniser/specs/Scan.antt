-- What the recogniser answers, and the lines as it reads them: netlist's readers without their tree, and what follows
-- each of their parts. Read's crate cites `first_bad`. Assumes nothing: these are definitions.
use Rattle.std.specs.Prelude.{ℕ, ◌-◌, true, false, cond, ◌&&◌, List, get_or, eqb, leb}
use Rattle.std.proofs.Math.Option.{Option}
use Rattle.prelude.specs.Lists.{ascii, is}
use Rattle.netlist.specs.Limits.{max_depth}
use Rattle.netlist.specs.Syntax.{Term, apply}
use Rattle.netlist.specs.Parse.{Reader, expect, bind, name_reader, expr_reader, term_reader, never_pairs, parse}
use Rattle.text_recogniser.specs.Readers.{word_reader, first_byte}
pub use Rattle.text_recogniser.specs.Readers.{bad_of}

-- refusal 2: the first byte that no legal text has behind that beginning, or the length where the text is cut off
unfoldable pub first_bad : List ℕ → Option ℕ
first_bad text = bad_of text (parse text)

-- one line behind its opening bracket, without its tree, and what follows each of its parts
abbrev pub closing : Reader ℕ
closing = word_reader (ascii ")\n")

unfoldable pub input_name : Reader ℕ
input_name = bind (name_reader (first_byte false)) (λ _. closing)

unfoldable pub input_reader : Reader ℕ
input_reader = expect (ascii "in ") input_name

unfoldable pub never_end : Reader ℕ
never_end = bind never_pairs (λ _. word_reader (ascii "\n"))

unfoldable pub never_reader : Reader ℕ
never_reader = expect (ascii "never") never_end

-- an expression behind its opening bracket, of the depth that a line's may have
unfoldable pub expression_reader : Reader Term
expression_reader = expr_reader (term_reader (max_depth - 1)) apply

unfoldable pub gate_expression : Reader ℕ
gate_expression = bind expression_reader (λ _. closing)

unfoldable pub gate_bracket : Reader ℕ
gate_bracket = expect (ascii " (") gate_expression

unfoldable pub gate_naming : Reader ℕ
gate_naming = bind (name_reader (first_byte true)) (λ _. gate_bracket)

unfoldable pub gate_reader : Reader ℕ
gate_reader = expect (ascii "gate ") gate_naming

unfoldable pub output_shown : Reader ℕ
output_shown = bind (name_reader (first_byte true)) (λ _. closing)

unfoldable pub output_space : Reader ℕ
output_space = expect (ascii " ") output_shown

unfoldable pub output_port : Reader ℕ
output_port = bind (name_reader (first_byte false)) (λ _. output_space)

unfoldable pub output_reader : Reader ℕ
output_reader = expect (ascii "out ") output_port

-- one line by its letter, of those that may come in a phase: 0 all, 1 no inputs, 2 gates and outputs, 3 outputs
unfoldable pub line_behind : ℕ → Reader ℕ
line_behind phase s =
    cond (is "i" (get_or s 0 0) && eqb phase 0) (input_reader s)
    (cond (is "n" (get_or s 0 0) && leb phase 1) (never_reader s)
    (cond (is "g" (get_or s 0 0) && leb phase 2) (gate_reader s) (output_reader s)))

unfoldable pub line_reader : ℕ → Reader ℕ
line_reader phase = expect (ascii "(") (line_behind phase)

-- the phase behind a line with this letter
unfoldable pub phase_of : ℕ → ℕ
phase_of c = cond (is "i" c) 0 (cond (is "n" c) 1 (cond (is "g" c) 2 3))
