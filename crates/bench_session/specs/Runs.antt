-- The bench as a stream transducer: a run over the bytes of its input, in bounded memory. Where it stands, what one
-- byte makes of that, what a piece of input makes of it, and what it writes at the input's end. That this is `bench` of
-- the whole input is a theorem (proofs/Pieces.antt).
use Rattle.std.specs.Prelude.{ℕ, suc, ◌+◌, ◌*◌, Bool, true, cond, ◌&&◌, List, [], ◌∷◌, ◌++◌, length, take, eqb, ltb}
use Rattle.netlist.specs.declared.Refusal.{Refusal}
use Rattle.netlist.specs.declared.Refusal.TheVariants.{TextTooLong}
use Rattle.netlist.specs.Limits.{max_text, max_inputs, max_name}
use Rattle.netlist.specs.StoredBlock.{decode}
use Rattle.netlist.specs.Answers.{Outcome, done, refused}
use Rattle.netlist.specs.Operations.{read_text}
use Rattle.netlist.specs.Program.{refusal_line}
use Rattle.netlist.specs.Line.{lf}
use Rattle.netlist.specs.Bench.{line_answer, line_answers, last_line, bench_after}

-- the bytes of the longest set line in form: `(set`, a pair for each input, `)` and LF
abbrev pub max_set_line : ℕ
max_set_line = 4 + (max_name + 5) * max_inputs + 2

-- the most bytes of a line that are held: of a longer line no more than shows that it is longer
abbrev pub held_bytes : ℕ
held_bytes = suc max_set_line

-- Where a run stands.
pub data Run : Type 0 where
  in_netlist : (fresh : Bool) (text : List ℕ) → Run
  in_lines : (words line : List ℕ) → Run
  over : Run

abbrev pub start : Run
start = in_netlist true []

-- one turn of a run: where it stands then, and what it writes
pub record Turn : Type 0 where
  pub next : Run
  pub output : List ℕ

abbrev pub silent : Run → Turn
silent r = record { next = r; output = [] }

abbrev pub ended : Refusal → Turn
ended r = record { next = over; output = refusal_line r }

-- the line so far with a byte more, as far as it is held
abbrev pub held_front : List ℕ → ℕ → List ℕ
held_front line c = take held_bytes (line ++ (c ∷ []))

-- the turn in which the netlist ends: what Read makes of it
unfoldable pub opened : Outcome → Turn
opened (done ws count detail) = silent (in_lines ws [])
opened (refused r) = ended r

-- the turn that one byte makes: a netlist that gets too long is refused at once, and a refused netlist ends the run
unfoldable pub turn : Run → ℕ → Turn
turn (in_netlist fresh text) c =
    cond (fresh && eqb c lf) (opened (read_text text))
    (cond (ltb (length text) max_text) (silent (in_netlist (eqb c lf) (text ++ (c ∷ [])))) (ended TextTooLong))
turn (in_lines ws line) c =
    cond (eqb c lf) (record { next = in_lines ws []; output = line_answer (decode ws) (held_front line c) })
    (silent (in_lines ws (held_front line c)))
turn over c = silent over

-- where a run stands after a piece of input
unfoldable pub after : Run → List ℕ → Run
after r [] = r
after r (c ∷ s) = after (turn r c).next s

unfoldable pub outputs : Run → List ℕ → List ℕ
outputs r [] = []
outputs r (c ∷ s) = (turn r c).output ++ outputs (turn r c).next s

-- what a run writes at the end of its input
unfoldable pub ending : Run → List ℕ
ending (in_netlist fresh text) = bench_after (read_text text) []
ending (in_lines ws line) = line_answers (decode ws) (last_line line)
ending over = []

-- where a run stands after pieces of input, one after the other
unfoldable pub after_all : Run → List (List ℕ) → Run
after_all r [] = r
after_all r (p ∷ ps) = after_all (after r p) ps

unfoldable pub outputs_all : Run → List (List ℕ) → List (List ℕ)
outputs_all r [] = []
outputs_all r (p ∷ ps) = outputs r p ∷ outputs_all (after r p) ps
