-- One step of the code is one turn of the run: for each way through the code in a line, what it leaves in the state and
-- the buffers. Assumes nothing.
use Prim.Native.Nat.{ℕ, zero, suc, ◌+◌, ◌≤◌, ◌<◌}
use mathlib.Core.Path.{◌≡◌, refl, sym, ap, ◌∙◌}
use mathlib.Core.Bool.{true, false}
use mathlib.Core.List.{List, [], ◌∷◌, ◌++◌, append-nil}
use native.Mathlib.Numerals.{add-one}
use native.Mathlib.Omega.{arith}
use lib.ListN.{length, take, set, length-append, length-set}
use lib.Seq.{take_all, length-take-le, take-suc-set, take-append-le}
use lib.Dec.{eqb}
use Rattle.netlist.specs.StoredBlock.{is_malformed, decode}
use Rattle.netlist.specs.Line.{lf}
use Rattle.netlist.specs.Bench.{line_answer, line_answers, last_line}
use Rattle.bench_session.specs.Runs.{held_bytes, in_lines, turn}
use Rattle.graph_simulation.specs.Rounded.{PreparedFor}
use Rattle.bench_session.specs.declared.state.State.TheVariants.{Lines}
use Rattle.bench_session.specs.Session.{run_of, Sound, TextHeld, AnswerWritten, SessionStepped}
use Rattle.bench_session.proofs.Written.{nothing_written}

-- ---- a byte of a line

module _ (kept c : ℕ) (line : List ℕ) (few : kept ≤ held_bytes) (room : held_bytes ≤ length line) where
  before-length : length (take kept line) ≡ kept
  before-length = length-take-le kept line (omega arith)

  pub held-stored : kept < held_bytes → TextHeld (take kept line) c (set line kept c) (kept + 1)
  held-stored l =
      let f : take (kept + 1) (set line kept c) ≡ take kept line ++ (c ∷ []) =
      rw add-one (take-suc-set line kept c (omega arith)) in
      let m : length (take kept line ++ (c ∷ [])) ≤ held_bytes =
      omega (arith, length-append (take kept line) (c ∷ []), before-length) in
      record {
        bytes_are = f ∙ sym (take_all held_bytes (take kept line ++ (c ∷ [])) m);
        few = omega arith;
        within = simp length-set (omega arith);
      }

  pub held-full : held_bytes ≤ kept → TextHeld (take kept line) c line kept
  held-full l =
      let e : kept ≡ held_bytes = omega arith in
      record {
        bytes_are =
            sym (take-append-le held_bytes (take kept line) (c ∷ []) (omega (arith, before-length))
            ∙ take_all held_bytes (take kept line) (omega (arith, before-length)));
        few = few;
        within = omega arith;
      }

module _ (count kept c : ℕ) (words line line' : List ℕ) (r : ℕ) (h : TextHeld (take kept line) c line' r)
    (there : count ≤ length words) (whole : is_malformed (take count words) ≡ false) {graph fanout : List ℕ}
    (prepared : PreparedFor (take count words) graph fanout) where
  pub turn_holds : (text out : List ℕ) → eqb c lf ≡ false
      → SessionStepped (turn (in_lines (take count words) (take kept line)) c) (Lines count r) text words graph fanout
      line' out 0
  unfolding turn run_of Sound
  turn_holds text out e =
      rw e (record {
        sound = (h.few, there, whole, prepared);
        next = ap (in_lines (take count words)) h.bytes_are;
        output = nothing_written out;
      })

  pub turn-answers : (text out : List ℕ) (n : ℕ) → eqb c lf ≡ true
      → AnswerWritten (line_answer (decode (take count words)) (take r line')) out n
      → SessionStepped (turn (in_lines (take count words) (take kept line)) c) (Lines count 0) text words graph fanout
      line' out n
  unfolding turn run_of Sound
  turn-answers text out n e w =
      rw e (record {
        sound = (omega arith, there, whole, prepared);
        next = refl;
        output = rw h.bytes_are at w;
      })

-- ---- the end of a line

pub no-last-line : (ws line out : List ℕ) → AnswerWritten (line_answers (decode ws) (last_line (take 0 line))) out 0
unfolding line_answers last_line
no-last-line ws line out = nothing_written out

pub last-line : (ws line out : List ℕ) (n : ℕ) → 0 < length line → AnswerWritten (line_answer (decode ws) line) out n
    → AnswerWritten (line_answers (decode ws) (last_line line)) out n
unfolding line_answers last_line
last-line ws [] out n l w = absurd (omega arith)
last-line ws (c ∷ line) out n l w = rw (append-nil (line_answer (decode ws) (c ∷ line))) w

pub nonzero : (n : ℕ) → (n ≡ 0 → ⊥) → 0 < n
nonzero zero h = absurd (h refl)
nonzero (suc n) h = omega arith
