-- What is ready stays so from read to read.
use Rattle.bench_session.specs.Session.{SessionReady}
use Rattle.bench.proofs.serve.Given as goal

abbrev pub invariant-loop : goal.invariant-loop
invariant-loop l = record {
  ready : SessionReady l.state l.text l.words l.graph l.fanout l.line l.out;
}
