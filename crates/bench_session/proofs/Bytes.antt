-- The bytes of a piece, one after the other. Assumes nothing.
use Prim.Native.Nat.{ℕ, ◌+◌, ◌≤◌, ◌<◌}
use mathlib.Core.Path.{◌≡◌, refl, sym, ap, ◌∙◌}
use mathlib.Core.List.{List, [], ◌∷◌, ◌++◌, append-nil}
use native.Mathlib.Numerals.{add-one}
use native.Mathlib.Omega.{arith}
use lib.ListN.{length, take, get_or}
use lib.Seq.{take-suc}
use mathlib.Core.Logic.{◌⊎◌, inl, inr}
use Rattle.prelude.proofs.Tests.{lt-or-le}
use Rattle.bench_session.specs.Runs.{Run, turn, after, outputs}
use Rattle.bench_session.proofs.Pieces.{after-append, outputs-append}
use Rattle.bench_session.specs.declared.state.State.{State}
use Rattle.bench_session.specs.Session.{run_of, SessionRoom, SessionReady, SessionStepped, Progressed, Advanced}
use Rattle.bench_session.proofs.Written.{nothing_written}

module _ (r : Run) (piece : List ℕ) (n : ℕ) (l : n < length piece) where
  one_more : take (n + 1) piece ≡ take n piece ++ (get_or piece n 0 ∷ [])
  one_more = rw add-one (take-suc piece n 0 l)

  pub after-byte : after r (take (n + 1) piece) ≡ (turn (after r (take n piece)) (get_or piece n 0)).next
  unfolding after
  after-byte = rw one_more (after-append r (take n piece) (get_or piece n 0 ∷ []))

  pub outputs-byte : outputs r (take (n + 1) piece)
      ≡ outputs r (take n piece) ++ (turn (after r (take n piece)) (get_or piece n 0)).output
  unfolding outputs
  outputs-byte =
      rw one_more (outputs-append r (take n piece) (get_or piece n 0 ∷ [])
      ∙ ap (λ (l : List ℕ). outputs r (take n piece) ++ l)
      (append-nil (turn (after r (take n piece)) (get_or piece n 0)).output))

-- ---- a piece, byte after byte

pub at-start : {state : State} {text words graph fanout line out : List ℕ} (piece : List ℕ)
    → SessionReady state text words graph fanout line out
    → Progressed (run_of state text words line) piece state text words graph fanout line out 0 0
unfolding after outputs
at-start {out = out} piece h = record { ready = h; within = omega arith; next = refl; output = nothing_written out }

no_bytes : (l : List ℕ) → 0 ≡ length l → l ≡ []
no_bytes [] e = refl
no_bytes (x ∷ l) e = absurd (omega arith)

module _ {r : Run} {piece : List ℕ} {state : State} {text words graph fanout line out : List ℕ} {taken written : ℕ}
    (p : Progressed r piece state text words graph fanout line out taken written) where
  pub one_byte : {s : State} {t w g f l o : List ℕ} {n : ℕ} → taken < length piece → written ≡ 0
      → SessionStepped (turn (run_of state text words line) (get_or piece taken 0)) s t w g f l o n → SessionRoom t w l o
      → Progressed r piece s t w g f l o (taken + 1) n
  one_byte {n = n} more none h room =
      let c = get_or piece taken 0 in
      let e : outputs r (take taken piece) ≡ [] = no_bytes _ (sym none ∙ p.output.count_is) in
      let f : outputs r (take (taken + 1) piece) ≡ (turn (run_of state text words line) c).output =
      outputs-byte r piece taken more ∙ rw (e, p.next) refl in
      record {
        ready = record { room = room; sound = h.sound };
        within = omega arith;
        next = h.next ∙ rw p.next (sym (after-byte r piece taken more));
        output = rw f h.output;
      }

  pub fed : (length piece ≤ taken) ⊎ (written ≡ 0 → ⊥)
      → Advanced r piece state text words graph fanout line out taken written
  unfolding outputs
  fed end = record { progress = p; moves = λ some. moved end some (lt-or-le 0 taken); stops = end }
    where
      moved : (length piece ≤ taken) ⊎ (written ≡ 0 → ⊥) → 0 < length piece → (0 < taken) ⊎ (taken ≤ 0) → 0 < taken
      moved end some (inl l) = l
      moved (inl le) some (inr z) = omega arith
      moved (inr wrote) some (inr z) =
          let e : taken ≡ 0 = omega arith in
          let f : written ≡ length (outputs r (take 0 piece)) = rw e at p.output.count_is in
          absurd (wrote f)
