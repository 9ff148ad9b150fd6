-- A pair behind its space, without its tree, and what follows each of its parts. Assumes nothing: these are
-- definitions.
use Rattle.std.specs.Prelude.{ℕ, true}
use Rattle.prelude.specs.Lists.{ascii}
use Rattle.netlist.specs.Parse.{Reader, expect, bind, name_reader, bit_reader}
use Rattle.text_recogniser.specs.Readers.{word_reader, first_byte}

unfoldable pub pair_value : Reader ℕ
pair_value = bind bit_reader (λ _. word_reader (ascii ")"))

unfoldable pub pair_space : Reader ℕ
pair_space = expect (ascii " ") pair_value

unfoldable pub pair_name : Reader ℕ
pair_name = bind (name_reader (first_byte true)) (λ _. pair_space)

unfoldable pub pair_scan : Reader ℕ
pair_scan = expect (ascii " (") pair_name
