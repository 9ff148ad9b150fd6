-- `bench_session::state::is_over` meets its contract: behind a refused netlist, and nowhere else. Assumes nothing.
use mathlib.Core.Path.{◌≡◌, refl}
use mathlib.Core.Bool.{false}
use Rattle.bench_session.specs.declared.state.State.{State}
use Rattle.bench_session.specs.declared.state.State.TheVariants.{Netlist, Lines, Ended}
use Rattle.bench_session.specs.Session.{has_ended}
use Rattle.bench_session.proofs.state.is_over.Goals as goal

-- any other state than `Ended`
not-ended : (s : State) → (s ≡ Ended → ⊥) → false ≡ has_ended s
unfolding has_ended
not-ended (Netlist kept fresh) k = refl
not-ended (Lines count kept) k = refl
not-ended Ended k = absurd (k refl)

pub returns-in-Ended : goal.returns-in-Ended
unfolding has_ended
returns-in-Ended c = rw c.in-Ended.is refl

pub returns-in_default : goal.returns-in_default
returns-in_default c = not-ended c.args.state c.in_default.not-Ended
