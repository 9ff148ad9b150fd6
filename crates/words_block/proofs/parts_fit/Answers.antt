-- `words_block::parts_fit` meets its contract: each way out is the first rule that fails, or the last.
use mathlib.Core.Path.{sym, ◌∙◌}
use native.Mathlib.Omega.{arith}
use Rattle.netlist.specs.StoredBlock.{nevers_at, gates_at, outputs_at}
use Rattle.words_block.proofs.parts_fit.Goals as goal

pub fit-requires-clause-at_le_place_room : goal.fit-requires-clause-at_le_place_room
unfolding nevers_at gates_at outputs_at
fit-requires-clause-at_le_place_room c =
    let start = c in
    omega (arith, c.gates_behind.ensures, start.requires)

pub fit-requires-clause-m_in_bounds : goal.fit-requires-clause-m_in_bounds
unfolding nevers_at gates_at outputs_at
fit-requires-clause-m_in_bounds c =
    let start = c in
    omega (arith, c.gates_behind.ensures, start.requires)

pub returns-then-not-fit : goal.returns-then-not-fit
returns-then-not-fit c =
    let after-front-fits = c in
    rw (
      sym after-front-fits.front_fits.ensures ∙ c.if-not-front_fits.false,
      ← c.gates_behind.ensures,
      sym c.fit.ensures ∙ c.if-not-fit.true,
    )

pub invariant_of-ports : goal.invariant_of-ports
unfolding nevers_at gates_at outputs_at
invariant_of-ports c =
    record { near = omega (arith, c.outputs_behind-outputs_at.ensures, c.requires); small = omega arith }

pub fit-requires-2 : goal.fit-requires-2
fit-requires-2 c = omega (arith, c.requires.k_le_max_outputs)

pub returns-then-not-fit-2 : goal.returns-then-not-fit-2
returns-then-not-fit-2 c =
    let after-front-fits = c in
    let else1 = c in
    let after-gates-behind = c in
    let after-fit = c in
    let after-outputs-behind = c in
    rw (
      sym after-front-fits.front_fits.ensures ∙ else1.if-not-front_fits.false,
      ← after-gates-behind.gates_behind.ensures,
      sym after-fit.fit.ensures ∙ c.if-not-fit.false,
      ← after-outputs-behind.outputs_behind-outputs_at.ensures,
      sym c.fit-2.ensures ∙ c.if-not-fit-2.true,
    )

pub fit-requires-3-clause-at_le_place_room : goal.fit-requires-3-clause-at_le_place_room
unfolding nevers_at gates_at outputs_at
fit-requires-3-clause-at_le_place_room c =
    let after-outputs-behind = c in
    let start = c in
    omega (arith, after-outputs-behind.outputs_behind-outputs_at.ensures, start.requires)

pub fit-requires-3-clause-k_le_max_outputs : goal.fit-requires-3-clause-k_le_max_outputs
unfolding nevers_at gates_at outputs_at
fit-requires-3-clause-k_le_max_outputs c =
    let after-outputs-behind = c in
    let start = c in
    omega (arith, after-outputs-behind.outputs_behind-outputs_at.ensures, start.requires)

pub returns : goal.returns
returns c =
    let gates = c in
    let front = gates in
    rw (
      sym front.front_fits.ensures ∙ front.if-not-front_fits.false,
      ← gates.gates_behind.ensures,
      sym gates.fit.ensures ∙ gates.if-not-fit.false,
      ← front.outputs_behind-outputs_at.ensures,
      sym c.fit-2.ensures ∙ c.if-not-fit-2.false,
    )
    c.fit-3.ensures
