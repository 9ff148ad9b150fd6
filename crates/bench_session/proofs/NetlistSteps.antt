-- One step of the code is one turn of the run: for each way through the code in the netlist, what it leaves in the
-- state and the buffers. Assumes nothing.
use Prim.Native.Nat.{ℕ, ◌+◌, ◌≤◌, ◌<◌}
use mathlib.Core.Path.{◌≡◌, refl, ap}
use mathlib.Core.Bool.{Bool, true, false, ◌&&◌}
use mathlib.Core.Logic.{◌⊎◌, inl, inr}
use mathlib.Core.List.{List, [], ◌∷◌, ◌++◌}
use native.Mathlib.Numerals.{add-one}
use native.Mathlib.Omega.{arith}
use lib.ListN.{length, take, set}
use lib.Seq.{length-take-le, take-suc-set}
use lib.Dec.{eqb}
use borrow.Author.Tests.{lt-ltb, le-ltb}
use Rattle.netlist.specs.declared.Refusal.{Refusal}
use Rattle.netlist.specs.declared.Refusal.TheVariants.{TextTooLong}
use Rattle.netlist.specs.declared.Done.{Done}
use Rattle.netlist.specs.Answers.{Answer}
use Rattle.std.specs.declared.result.Result.TheVariants.{Ok, Err}
use Rattle.netlist.specs.Limits.{max_text, max_block}
use Rattle.netlist.specs.StoredBlock.{is_malformed}
use Rattle.netlist.specs.Line.{lf}
use Rattle.netlist.specs.Answers.{Outcome, done, refused, Promise}
use Rattle.netlist.specs.Operations.{read_text, read}
use Rattle.netlist.specs.Program.{shown}
use Rattle.netlist.specs.Bench.{line_answers, bench_after}
use Rattle.bench_session.specs.Runs.{in_netlist, in_lines, opened, turn}
use Rattle.bench_session.proofs.Whole.{read_whole}
use Rattle.graph_simulation.specs.Rounded.{PreparedFor}
use Rattle.text_pieces.specs.Shown.{Shown}
use Rattle.text_pieces.proofs.Told.{Gave, told-refused, told-done, gave-within}
use Rattle.op_read.proofs.ReadFits.{read_fits}
use Rattle.bench_session.specs.declared.state.State.{State}
use Rattle.bench_session.specs.declared.state.State.TheVariants.{Netlist, Lines, Ended}
use Rattle.bench_session.specs.Session.{run_of, Unprepared, Sound, SessionStepped}
use Rattle.bench_session.proofs.Written.{shown-written, nothing_written}

-- ---- the end of the netlist

module _ (t entry exit : List ℕ) (room : max_block ≤ length entry) (a : Answer)
    (p : Promise (read t (length entry)) entry a exit) where
  is-refused : (why : Refusal) → a ≡ Err why → read_text t ≡ refused why
  unfolding read
  is-refused why e = told-refused (read_text t) a entry exit (read_fits (length entry) room t) p why e

  is-done : (d : Done) → a ≡ Ok d → Gave (read_text t) entry exit d.count d.detail
  unfolding read
  is-done d e = told-done (read_text t) a entry exit (read_fits (length entry) room t) p d e

  pub read-refused : (why : Refusal) → a ≡ Err why → (text graph fanout line out final : List ℕ) (n : ℕ)
      → Shown (refused why) out final n
      → SessionStepped (opened (read_text t)) Ended text exit graph fanout line final n
  unfolding opened run_of Sound shown
  read-refused why e text graph fanout line out final n s =
      rw (is-refused why e) (record { sound = tt; next = refl; output = shown-written s })

  -- the block that was read is not malformed
  pub read-legal : (d : Done) → a ≡ Ok d → (d.count ≤ length exit) × (is_malformed (take d.count exit) ≡ false)
  read-legal d e =
      let g = is-done d e in (gave-within g, rw g.front (read_whole t g.result d.count d.detail g.is))

  pub read_done : (d : Done) → a ≡ Ok d → (text graph fanout line out : List ℕ)
      → PreparedFor (take d.count exit) graph fanout
      → SessionStepped (opened (read_text t)) (Lines d.count 0) text exit graph fanout line out 0
  unfolding opened run_of Sound
  read_done d e text graph fanout line out prepared =
      let g = is-done d e in
      rw g.is
      (record {
        sound = (omega arith, (read-legal d e).0, (read-legal d e).1, prepared);
        next = ap (λ (ws : List ℕ). in_lines ws []) g.front;
        output = nothing_written out;
      })

-- what a netlist opens with is what it gives where the input ends behind it
pub opened-ends : (x : Outcome) → (opened x).output ≡ bench_after x []
unfolding opened bench_after line_answers
opened-ends (done ws count detail) = refl
opened-ends (refused r) = refl

-- ---- a byte of the netlist

module _ (kept : ℕ) (fresh : Bool) (c : ℕ) (text words graph fanout line out : List ℕ) where
  pub turn-opens : {state : State} {text' words' graph' fanout' line' out' : List ℕ} {n : ℕ} → fresh && eqb c lf ≡ true
      → SessionStepped (opened (read_text (take kept text))) state text' words' graph' fanout' line' out' n
      → SessionStepped (turn (in_netlist fresh (take kept text)) c) state text' words' graph' fanout' line' out' n
  unfolding turn
  turn-opens e s = rw e s

  pub turn-keeps : fresh && eqb c lf ≡ false → kept < max_text → max_text ≤ length text → Unprepared graph fanout
      → SessionStepped (turn (in_netlist fresh (take kept text)) c) (Netlist (kept + 1) (eqb c lf)) (set text kept c)
      words graph fanout line out 0
  unfolding turn run_of Sound
  turn-keeps e l room bare =
      let m : length (take kept text) ≡ kept = length-take-le kept text (omega arith) in
      let f : take (kept + 1) (set text kept c) ≡ take kept text ++ (c ∷ []) =
      rw add-one (take-suc-set text kept c (omega arith)) in
      rw (e, m, lt-ltb kept max_text l)
      (record { sound = (omega arith, bare); next = ap (in_netlist (eqb c lf)) f; output = nothing_written out })

  pub turn-too-long : {final : List ℕ} {n : ℕ} → fresh && eqb c lf ≡ false → max_text ≤ kept → kept ≤ length text
      → Shown (refused TextTooLong) out final n
      → SessionStepped (turn (in_netlist fresh (take kept text)) c) Ended text words graph fanout line final n
  unfolding turn run_of Sound shown
  turn-too-long e l room s =
      let m : length (take kept text) ≡ kept = length-take-le kept text room in
      rw (e, m, le-ltb kept max_text l) (record { sound = tt; next = refl; output = shown-written s })

-- neither is both
pub not-both : (a b : Bool) → (b ≡ false) ⊎ (a ≡ false) → a && b ≡ false
not-both a b (inr e) = rw e refl
not-both true b (inl e) = e
not-both false b (inl e) = refl
