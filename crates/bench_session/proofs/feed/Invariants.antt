-- `bench_session::feed` meets its contract: what was taken so far led the run here, and until something is answered
-- nothing is written. Assumes nothing.
use Rattle.bench_session.specs.Session.{run_of, Progressed}
use lib.ListN.{length}
use mathlib.Core.Path.{◌≡◌}
use Prim.Native.Nat.{◌-◌}
use Rattle.bench_session.proofs.feed.Given as goal

abbrev pub invariant-loop-taken : goal.invariant-loop-taken
invariant-loop-taken l =
    Progressed (run_of l.initial.state l.initial.text l.initial.words l.initial.line) l.piece l.state l.text l.words
    l.graph l.fanout l.line l.out l.taken l.written
    × (length l.text ≡ length l.initial.text) × (length l.words ≡ length l.initial.words)
    × (length l.line ≡ length l.initial.line) × (length l.out ≡ length l.initial.out)

abbrev pub decreases-loop-taken : goal.decreases-loop-taken
decreases-loop-taken l = length l.piece - l.taken
