-- SPECIFICATION 8: what the program `unloop` writes, the text of the rendering or the line of the first refusal.
use Rattle.std.specs.Prelude.{ℕ, List, ◌++◌}
use Rattle.prelude.specs.Lists.{ascii}
use Rattle.netlist.specs.declared.Refusal.{Refusal}
use Rattle.netlist.specs.Writing.{decimal}
use Rattle.netlist.specs.Answers.{Outcome, done, refused, refusal_number, refusal_detail}
use Rattle.netlist.specs.Operations.{read_text, render_words, write_words}

-- an operation on what the one before it gave
unfoldable pub chained : Outcome → (List ℕ → Outcome) → Outcome
chained (done result count detail) next = next result
chained (refused r) next = refused r

unfoldable pub refusal_line : Refusal → List ℕ
refusal_line r =
    ascii "(refused " ++ (decimal (refusal_number r) ++ (ascii " " ++ (decimal (refusal_detail r) ++ ascii ")\n")))

unfoldable pub shown : Outcome → List ℕ
shown (done result count detail) = result
shown (refused r) = refusal_line r

-- what `unloop` writes when it reads this text
unfoldable pub unloop : List ℕ → List ℕ
unloop text = shown (chained (chained (read_text text) render_words) write_words)
