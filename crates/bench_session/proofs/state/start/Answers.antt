-- `bench_session::state::start` meets its contract: nothing is held. Assumes nothing.
use Rattle.bench_session.specs.Session.{run_of, Sound}
use mathlib.Core.Path.{refl}
use native.Mathlib.Omega.{arith}
use Rattle.bench_session.proofs.state.start.Goals as goal

pub returns : goal.returns
unfolding run_of Sound
returns c =
    record { is_sound = λ words graph fanout bare. (omega arith, bare); is_start = λ text words line. refl }
