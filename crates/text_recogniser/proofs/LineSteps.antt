-- The parts of a line, one after the other: what its reader does first, and what follows. The line readers' proofs cite
-- each step. Assumes nothing.
use Prim.Native.Nat.{◌-◌}
use mathlib.Core.Bool.{true, false}
use lib.ListN.{length}
use Rattle.prelude.specs.Lists.{ascii}
use Rattle.netlist.specs.Limits.{max_depth}
use Rattle.netlist.specs.Syntax.{apply}
use Rattle.netlist.specs.Parse.{name_reader, never_pairs}
use Rattle.text_recogniser.specs.Readers.{word_reader, first_byte}
use Rattle.text_recogniser.proofs.Shortens.{Shortens, shortens-name}
use Rattle.text_recogniser.proofs.Chain.{Then, word-then, skip-then}
use Rattle.text_recogniser.proofs.PairSteps.{shortens-pairs}
use Rattle.text_recogniser.proofs.ShortensTerms.{shortens-term, shortens-expr}
use Rattle.text_recogniser.specs.Scan.{closing, expression_reader, input_name, input_reader, never_end, never_reader}
use Rattle.text_recogniser.specs.Scan.{gate_expression, gate_bracket, gate_naming, gate_reader, output_shown}
use Rattle.text_recogniser.specs.Scan.{output_space, output_port, output_reader}

pub input-word : Then input_reader (word_reader (ascii "in ")) input_name
unfolding input_reader
input-word = word-then (ascii "in ") input_name

pub input-name : Then input_name (name_reader (first_byte false)) closing
unfolding input_name
input-name = skip-then (shortens-name (first_byte false)) closing

pub never-word : Then never_reader (word_reader (ascii "never")) never_end
unfolding never_reader
never-word = word-then (ascii "never") never_end

pub shortens-never-pairs : Shortens never_pairs
unfolding never_pairs
shortens-never-pairs = record { leaves = λ s. (shortens-pairs (length s) 1).leaves s }

pub never-pairs : Then never_end never_pairs (word_reader (ascii "\n"))
unfolding never_end
never-pairs = skip-then shortens-never-pairs (word_reader (ascii "\n"))

pub shortens-expression : Shortens expression_reader
unfolding expression_reader
shortens-expression = shortens-expr apply (shortens-term (max_depth - 1))

pub gate-word : Then gate_reader (word_reader (ascii "gate ")) gate_naming
unfolding gate_reader
gate-word = word-then (ascii "gate ") gate_naming

pub gate-name : Then gate_naming (name_reader (first_byte true)) gate_bracket
unfolding gate_naming
gate-name = skip-then (shortens-name (first_byte true)) gate_bracket

pub gate-bracket : Then gate_bracket (word_reader (ascii " (")) gate_expression
unfolding gate_bracket
gate-bracket = word-then (ascii " (") gate_expression

pub gate-expression : Then gate_expression expression_reader closing
unfolding gate_expression
gate-expression = skip-then shortens-expression closing

pub output-word : Then output_reader (word_reader (ascii "out ")) output_port
unfolding output_reader
output-word = word-then (ascii "out ") output_port

pub output-port : Then output_port (name_reader (first_byte false)) output_space
unfolding output_port
output-port = skip-then (shortens-name (first_byte false)) output_space

pub output-space : Then output_space (word_reader (ascii " ")) output_shown
unfolding output_space
output-space = word-then (ascii " ") output_shown

pub output-shown : Then output_shown (name_reader (first_byte true)) closing
unfolding output_shown
output-shown = skip-then (shortens-name (first_byte true)) closing
