-- One step of the code is one turn of the run: for each case of the state, what it asks for and what it leaves. Assumes
-- nothing.
use Prim.Native.Nat.{ℕ, ◌≤◌}
use mathlib.Core.Path.{◌≡◌, refl}
use mathlib.Core.Bool.{Bool}
use mathlib.Core.List.{List, []}
use lib.ListN.{take}
use Rattle.netlist.specs.Limits.{max_text}
use Rattle.netlist.specs.StoredBlock.{decode}
use Rattle.netlist.specs.Operations.{read_text}
use Rattle.netlist.specs.Bench.{line_answers, last_line, bench_after}
use Rattle.bench_session.specs.Runs.{in_netlist, in_lines, turn, ending}
use Rattle.bench_session.specs.declared.state.State.{State}
use Rattle.bench_session.specs.declared.state.State.TheVariants.{Netlist, Lines, Ended}
use Rattle.bench_session.specs.Session.{run_of, Unprepared, Sound, SessionReady, LineRoom, AnswerWritten}
use Rattle.bench_session.specs.Session.{SessionStepped}
use Rattle.bench_session.proofs.Written.{nothing_written}

module _ {state : State} (text words line : List ℕ) where
  pub netlist-step : (c : ℕ) {kept : ℕ} {fresh : Bool} {s : State} {t w g f l o : List ℕ} {n : ℕ}
      → state ≡ Netlist kept fresh
      → SessionStepped (turn (in_netlist fresh (take kept text)) c) s t w g f l o n
      → SessionStepped (turn (run_of state text words line) c) s t w g f l o n
  unfolding run_of
  netlist-step c e h = rw e h

  pub line_step : (c : ℕ) {count kept : ℕ} {s : State} {t w g f l o : List ℕ} {n : ℕ} → state ≡ Lines count kept
      → SessionStepped (turn (in_lines (take count words) (take kept line)) c) s t w g f l o n → SessionStepped (turn
      (run_of state text words line) c) s t w g f l o n
  unfolding run_of
  line_step c e h = rw e h

  pub over-step : (c : ℕ) (graph fanout out : List ℕ) → state ≡ Ended → SessionStepped (turn
      (run_of state text words line) c) Ended text words graph fanout line out 0
  unfolding run_of turn Sound
  over-step c graph fanout out e = rw e (record { sound = tt; next = refl; output = nothing_written out })

  pub netlist-ending : {kept : ℕ} {fresh : Bool} {out : List ℕ} {n : ℕ} → state ≡ Netlist kept fresh
      → AnswerWritten (bench_after (read_text (take kept text)) []) out n
      → AnswerWritten (ending (run_of state text words line)) out n
  unfolding run_of ending
  netlist-ending e h = rw e h

  pub line-ending : {count kept : ℕ} {out : List ℕ} {n : ℕ} → state ≡ Lines count kept
      → AnswerWritten (line_answers (decode (take count words)) (last_line (take kept line))) out n
      → AnswerWritten (ending (run_of state text words line)) out n
  unfolding run_of ending
  line-ending e h = rw e h

  pub over-ending : (out : List ℕ) → state ≡ Ended → AnswerWritten (ending (run_of state text words line)) out 0
  unfolding run_of ending
  over-ending out e = rw e (nothing_written out)

module _ {state : State} {text words graph fanout line out : List ℕ}
    (h : SessionReady state text words graph fanout line out) where
  pub netlist-ready : {kept : ℕ} {fresh : Bool} → state ≡ Netlist kept fresh
      → (kept ≤ max_text) × Unprepared graph fanout
  unfolding Sound
  netlist-ready e = rw e at h.sound

  pub line-ready : {count kept : ℕ} → state ≡ Lines count kept → LineRoom count kept words graph fanout line out
  unfolding Sound
  line-ready {count} {kept} e =
      let s : Sound (Lines count kept) words graph fanout = rw e at h.sound in
      record {
        words_there = s.1;
        whole = s.2;
        prepared = s.3;
        few = s.0;
        line_room = h.room.line_room;
        out_room = h.room.out_room;
      }
