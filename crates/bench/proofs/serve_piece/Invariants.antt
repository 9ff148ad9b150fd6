-- What is ready stays so from answer to answer. The measure is what is left of the piece.
use Rattle.std.proofs.Common.{length, ◌-◌, ◌≤◌}
use Rattle.bench_session.specs.Session.{SessionReady}
use Rattle.bench.proofs.serve_piece.Given as goal

abbrev pub invariant-loop-at : goal.invariant-loop-at
invariant-loop-at l = record {
  within : l.at ≤ length l.piece;
  ready : SessionReady l.state l.text l.words l.graph l.fanout l.line l.out;
}

abbrev pub decreases-loop-at : goal.decreases-loop-at
decreases-loop-at l = length l.piece - l.at
