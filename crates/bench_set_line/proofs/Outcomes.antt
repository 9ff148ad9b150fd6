-- The outcome of a line as a chain of conditions, and the pairs of a line that is in form. Assumes nothing.
use Prim.Native.Nat.{ℕ}
use mathlib.Core.Path.{◌≡◌, refl, sym, ap, ◌∙◌}
use mathlib.Core.Bool.{false}
use mathlib.Core.List.{List, []}
use mathlib.Core.Option.{Option, none, some}
use native.Mathlib.Omega.{arith}
use lib.ListN.{length, get_or}
use lib.Dec.{ltb}
use Rattle.netlist.specs.declared.Refusal.{Refusal}
use Rattle.std.specs.Result.{IsErrAnd}
use Rattle.netlist.specs.declared.Refusal.TheVariants.{SyntaxError, DuplicateDeclaration, UndeclaredName}
use Rattle.netlist.specs.declared.Refusal.TheVariants.{MalformedBlock, NoRoom}
use Rattle.netlist.specs.Netlist.{Block}
use Rattle.netlist.specs.StoredBlock.{decode, is_malformed}
use Rattle.netlist.specs.Parse.{Parsed, got, stuck}
use Rattle.netlist.specs.Reading.{first_repeat, first_outside}
use Rattle.netlist.specs.Answers.{Outcome, done, refused, refuse_if, refuse_at, in_room, Promise}
use Rattle.netlist.specs.Answers.{Answer}
use Rattle.netlist.specs.Operations.{counted}
use Rattle.netlist.specs.Syntax.{Pair}
use Rattle.netlist.specs.SetLine.{set_line_reader}
use Rattle.netlist.specs.Bench.{given_names, given_values, show_line, pairs_outcome, parsed_outcome, line_outcome, answer_line}
use Rattle.theory_encoding.proofs.Decoded.{decode-input_count}
use Rattle.theory_grammar.proofs.SetLines.{set_line-sound}
use Rattle.text_recogniser.specs.Readers.{bad_of}
use Rattle.bench_set_line.specs.Line.{first_bad_in_set_line}
use Rattle.words_refusals.specs.Tests.{Test}
use Rattle.std.specs.declared.result.Result.TheVariants.{Ok, Err}
use Rattle.words_refusals.specs.Tests.{test_at}
use Rattle.words_refusals.proofs.Promised.{IsFailed, not-err, residual, failed-at, keeps-room}
use Rattle.bench_set_line.specs.Tables.{LineFor, then_test, pairs_test, LineRead}
use Rattle.graph_simulation.specs.Rounded.{Starting}

-- what comes behind the form
unfoldable pub behind_form : Block → Parsed (List Pair) → Outcome
behind_form b (got ps rest) = pairs_outcome b ps
behind_form b (stuck left) = refused MalformedBlock

parsed-chain : (b : Block) (line : List ℕ) (p : Parsed (List Pair))
    → parsed_outcome b line p ≡ refuse_at (bad_of line p) SyntaxError (behind_form b p)
unfolding parsed_outcome refuse_at behind_form
parsed-chain b line (got ps rest) = refl
parsed-chain b line (stuck left) = refl

module _ (ws line : List ℕ) (room : ℕ) where
  abbrev n : ℕ
  n = get_or ws 0 0

  pub line-chain : answer_line ws line room ≡ in_room room (refuse_if (is_malformed ws) MalformedBlock
      (refuse_at (first_bad_in_set_line n line) SyntaxError (behind_form (decode ws) (set_line_reader n line))))
  unfolding answer_line line_outcome first_bad_in_set_line
  line-chain =
      rw (decode-input_count ws) (ap (λ o. in_room room (refuse_if (is_malformed ws) MalformedBlock o)) (parsed-chain
      (decode ws) line (set_line_reader n line)))

-- a line in form has pairs, and the rest of the chain is theirs
pub record Found (ws line : List ℕ) : Type 0 where
  pub pairs : List Pair
  pub for : LineFor ws pairs line
  pub behind : behind_form (decode ws) (set_line_reader (get_or ws 0 0) line) ≡ pairs_outcome (decode ws) pairs

pub in-form : (ws line : List ℕ) → is_malformed ws ≡ false → first_bad_in_set_line (get_or ws 0 0) line ≡ none → Found ws line
unfolding first_bad_in_set_line behind_form
in-form ws line whole h = go (set_line_reader (get_or ws 0 0) line) refl h
  where
    go : (p : Parsed (List Pair)) → set_line_reader (get_or ws 0 0) line ≡ p → bad_of line p ≡ none → Found ws line
    go (got ps rest) e h =
        let f = set_line-sound (get_or ws 0 0) line ps rest e in
        record {
          pairs = ps;
          for = record { whole = whole; is = record { legal = f.legal; printed = f.printed } };
          behind = ap (behind_form (decode ws)) e;
        }
    go (stuck left) e h = let z : ◌≡◌ {A = ℕ} 0 1 = cc in absurd (omega arith)

-- 11 is the last condition
pub show-room : (s : List ℕ) (room : ℕ)
    → in_room room (counted s) ≡ refuse_if (ltb room (length s)) NoRoom (done s (length s) 0)
unfolding counted in_room
show-room s room = refl

-- the same by the two tests together
pub pairs-passed : (b : Block) (ps : List Pair) (room : ℕ) {t : Test} → t ≡ pairs_test b ps → t ≡ Ok tt
    → in_room room (pairs_outcome b ps) ≡ in_room room (counted (show_line b (given_values b ps)))
unfolding pairs_outcome pairs_test then_test test_at refuse_at
pairs-passed b ps room {t} told passes =
    go (first_repeat [] (given_names ps)) (first_outside b.inputs (given_names ps)) (sym told ∙ passes)
  where
    o : Outcome
    o = counted (show_line b (given_values b ps))

    go : (p q : Option ℕ) → then_test (test_at p DuplicateDeclaration) (test_at q UndeclaredName) ≡ Ok tt
        → in_room room (refuse_at p DuplicateDeclaration (refuse_at q UndeclaredName o)) ≡ in_room room o
    go none none e = refl
    go none (some place) e = let z : ◌≡◌ {A = ℕ} 0 1 = cc in absurd (omega arith)
    go (some place) q e = let z : ◌≡◌ {A = ℕ} 0 1 = cc in absurd (omega arith)

pub pairs-failed : (b : Block) (ps : List Pair) (room : ℕ) {t : Test} {why : Refusal} {r : Answer} (entry : List ℕ)
    → t ≡ pairs_test b ps
    → t ≡ Err why → IsErrAnd r (λ e. e ≡ why)
    → Promise (in_room room (pairs_outcome b ps)) entry r entry
unfolding pairs_outcome pairs_test then_test test_at refuse_at
pairs-failed b ps room {t} {r = r} entry told fails is =
    go (first_repeat [] (given_names ps)) (first_outside b.inputs (given_names ps)) told
  where
    o : Outcome
    o = counted (show_line b (given_values b ps))

    go : (p q : Option ℕ) → t ≡ then_test (test_at p DuplicateDeclaration) (test_at q UndeclaredName)
        → Promise (in_room room (refuse_at p DuplicateDeclaration (refuse_at q UndeclaredName o))) entry r entry
    go none q e = failed-at (in_room room) (keeps-room room) o q UndeclaredName refl e entry fails is
    go (some place) q e =
        failed-at (in_room room) (keeps-room room) (refuse_at q UndeclaredName o) (some place) DuplicateDeclaration refl e
        entry fails is

-- what reading the tables comes to: the first test fails, the second does, or both pass
module _ (ws : List ℕ) (ps : List Pair) (values : List ℕ) where
  abbrev repeated : Test
  repeated = test_at (first_repeat [] (given_names ps)) DuplicateDeclaration

  abbrev unknown : Test
  unknown = test_at (first_outside (decode ws).inputs (given_names ps)) UndeclaredName

  then-failed : (t : Test) → IsFailed t → t ≡ then_test t unknown
  unfolding then_test
  then-failed (Ok u) k = absurd (k refl)
  then-failed (Err why) k = refl

  -- behind a test that failed, `r` is what `?` answers
  pub repeat_read : {t r : Test} {why : Refusal} → t ≡ repeated → t ≡ Err why → IsErrAnd r (λ e. e ≡ why)
      → LineRead ws ps r values
  unfolding pairs_test
  repeat_read {t} {r} e k g =
      let same : r ≡ t = residual r g ∙ sym k in
      let fails : IsFailed t = λ p. not-err (sym k ∙ p) in
      record {
        told = same ∙ then-failed t fails ∙ ap (λ (a : Test). then_test a unknown) e;
        given = λ p. absurd (fails (sym same ∙ p));
      }

  pub outside-read : {s t r : Test} {why : Refusal} → s ≡ repeated → s ≡ Ok tt → t ≡ unknown → t ≡ Err why
      → IsErrAnd r (λ e. e ≡ why)
      → LineRead ws ps r values
  unfolding pairs_test then_test
  outside-read {s} {t} {r} d p e k g =
      let first : repeated ≡ Ok tt = sym d ∙ p in
      let same : r ≡ t = residual r g ∙ sym k in
      record { told = same ∙ e ∙ rw first refl; given = λ q. absurd (not-err (sym k ∙ sym same ∙ q)) }

  pub both_read : {s t : Test} → s ≡ repeated → s ≡ Ok tt → t ≡ unknown → t ≡ Ok tt
      → Starting (given_values (decode ws) ps) values
      → LineRead ws ps (Ok tt) values
  unfolding pairs_test then_test
  both_read d p e q g =
      let first : repeated ≡ Ok tt = sym d ∙ p in
      let second : unknown ≡ Ok tt = sym e ∙ q in
      record { told = rw (first, second) refl; given = λ z. g }

-- of a block that is not malformed the form is the first condition
pub form-chain : (ws line : List ℕ) (room : ℕ) → is_malformed ws ≡ false → answer_line ws line room
    ≡ in_room room (refuse_at (first_bad_in_set_line (get_or ws 0 0) line) SyntaxError
    (behind_form (decode ws) (set_line_reader (get_or ws 0 0) line)))
unfolding refuse_if
form-chain ws line room whole = line-chain ws line room ∙ rw whole refl
