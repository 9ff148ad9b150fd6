-- Every answer has room, and what is shown of an outcome is what the bench writes. Assumes nothing.
use Prim.Native.Nat.{ℕ, ◌+◌, ◌*◌, ◌≤◌}
use mathlib.Core.Path.{◌≡◌, refl}
use mathlib.Core.Bool.{true, false, and-eq-true_iff}
use mathlib.Core.List.{List, [], ◌∷◌, ◌++◌, map}
use native.Mathlib.Omega.{arith}
use lib.ListN.{length, length-append}
use Rattle.prelude.specs.Lists.{ascii, all, joined}
use Rattle.netlist.specs.declared.Refusal.{Refusal}
use Rattle.netlist.specs.declared.Done.{Done}
use Rattle.netlist.specs.Answers.{Answer}
use Rattle.std.specs.declared.result.Result.TheVariants.{Ok, Err}
use Rattle.netlist.specs.Limits.{max_name}
use Rattle.netlist.specs.Values.{Value, undefined, val}
use Rattle.netlist.specs.Netlist.{Output, Block, input_count}
use Rattle.netlist.specs.StoredBlock.{is_malformed, decode}
use Rattle.netlist.specs.Names.{is_plain_name}
use Rattle.netlist.specs.Rounds.{settled, output_value}
use Rattle.netlist.specs.Parse.{Parsed, got, stuck}
use Rattle.netlist.specs.Syntax.{Pair, value_text, pair_text}
use Rattle.netlist.specs.SetLine.{set_line_reader}
use Rattle.netlist.specs.Answers.{Outcome, refused, refuse_if, in_room, Promise}
use Rattle.netlist.specs.Bench.{given_values, port_text, show_line, pairs_outcome, parsed_outcome, line_outcome, answer_line}
use Rattle.netlist.specs.Bench.{line_answer}
use Rattle.theory_encoding.proofs.WellFormed.{WellFormed, well_formed-parts}
use Rattle.theory_encoding.proofs.RoundTrip.{whole-well_formed}
use Rattle.theory_grammar.proofs.WritingLength.{name-short}
use Rattle.text_pieces.specs.Shown.{Shown}
use Rattle.text_pieces.proofs.Told.{Fits, told-refused, kept-refused, told-done, shown-refused, shown-gave}
use Rattle.text_pieces.proofs.Sizes.{counted-fits, refused-fits, at-fits}
use Rattle.bench_session.specs.Session.{max_answer, AnswerWritten}
use Rattle.bench_session.proofs.Written.{shown-written}

-- ---- the length of a show line

port-length : (o : Output) (x state : List Value) → is_plain_name o.port ≡ true
    → length (port_text x state o) ≤ max_name + 5
unfolding port_text pair_text value_text is_plain_name
port-length o x state h = go (output_value x state o)
  where
    go : (v : Value) → length (ascii " ("
        ++ (o.port ++ (ascii " " ++ (value_text v ++ (ascii ")" ++ []))))) ≤ max_name + 5
    go undefined = let s = name-short _ o.port h in simp length-append (omega arith)
    go (val true) = let s = name-short _ o.port h in simp length-append (omega arith)
    go (val false) = let s = name-short _ o.port h in simp length-append (omega arith)

ports-length : (os : List Output) (x state : List Value) → all (λ o. is_plain_name o.port) os ≡ true
    → length (joined (map (port_text x state) os)) ≤ (max_name + 5) * length os
ports-length [] x state h = omega arith
ports-length (o ∷ os) x state h =
    let f = (and-eq-true_iff (is_plain_name o.port) (all (λ o. is_plain_name o.port) os)).0 h in
    let s = port-length o x state f.0 in
    let r = ports-length os x state f.1 in
    omega (arith, length-append (port_text x state o) (joined (map (port_text x state) os)))

show-length : (b : Block) (x : List Value) → WellFormed b → length (show_line b x) ≤ max_answer
unfolding show_line
show-length b x w =
    let s = ports-length b.outputs x (settled b x) w.port_names in
    let few = w.few_outputs in
    simp length-append (omega arith)

-- ---- an answer to a line has room

module _ (ws line : List ℕ) (whole : is_malformed ws ≡ false) (room : ℕ) (enough : max_answer ≤ room) where
  pairs-fit : (ps : List Pair) → Fits room (pairs_outcome (decode ws) ps)
  unfolding pairs_outcome
  pairs-fit ps =
      let w = well_formed-parts (decode ws) (whole-well_formed ws whole) in
      let x = given_values (decode ws) ps in
      at-fits room _ _ _ (at-fits room _ _ _
      (counted-fits room (show_line (decode ws) x) (omega (arith, show-length (decode ws) x w, enough))))

  line-fits : Fits room (line_outcome (decode ws) line)
  unfolding line_outcome parsed_outcome
  line-fits = go (set_line_reader (input_count (decode ws)) line)
    where
      go : (p : Parsed (List Pair)) → Fits room (parsed_outcome (decode ws) line p)
      go (stuck left) = refused-fits room _
      go (got ps rest) = pairs-fit ps

  answer-is : answer_line ws line room ≡ in_room room (line_outcome (decode ws) line)
  unfolding answer_line refuse_if
  answer-is = rw whole refl

-- ---- what is shown is written

module _ (ws line : List ℕ) (whole : is_malformed ws ≡ false) (entry exit : List ℕ) (enough : max_answer ≤ length entry)
    (a : Answer)
    (p : Promise (answer_line ws line (length entry)) entry a exit) where
  o : Outcome
  o = line_outcome (decode ws) line

  fits : Fits (length entry) o
  unfolding o
  fits = line-fits ws line whole (length entry) enough

  told : Promise (in_room (length entry) o) entry a exit
  unfolding o
  told = rw (answer-is ws line whole (length entry) enough) at p

  pub line_refused : (why : Refusal) (final : List ℕ) (n : ℕ) → a ≡ Err why → Shown (refused why) exit final n
      → AnswerWritten (line_answer (decode ws) line) final n
  unfolding o line_answer
  line_refused why final n e s =
      shown-written (shown-refused o why entry exit final n (told-refused o a entry exit fits told why e)
      (kept-refused o a entry exit fits told why e) s)

  pub line-done : (d : Done) → a ≡ Ok d → AnswerWritten (line_answer (decode ws) line) exit d.count
  unfolding o line_answer
  line-done d e = shown-written (shown-gave (told-done o a entry exit fits told d e))
