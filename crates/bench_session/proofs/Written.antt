-- What is shown of an outcome is written. Assumes nothing.
use Prim.Native.Nat.{ℕ}
use mathlib.Core.Path.{refl, sym}
use mathlib.Core.List.{List, []}
use native.Mathlib.Omega.{arith}
use Rattle.prelude.proofs.Slices.{placed-room, take-placed}
use Rattle.netlist.specs.Answers.{Outcome}
use Rattle.netlist.specs.Program.{shown}
use Rattle.text_pieces.specs.Shown.{Shown}
use Rattle.bench_session.specs.Session.{AnswerWritten}

pub shown-written : {o : Outcome} {entry exit : List ℕ} {r : ℕ} → Shown o entry exit r → AnswerWritten (shown o) exit r
shown-written {o} {entry} {exit} s =
    record {
      count_is = s.count_is;
      within = rw s.text_is (placed-room (shown o) entry (sym s.count_is));
      bytes_are = rw s.text_is (take-placed (shown o) entry _ (sym s.count_is));
    }

pub nothing_written : (out : List ℕ) → AnswerWritten [] out 0
nothing_written out = record { count_is = refl; within = omega arith; bytes_are = refl }
