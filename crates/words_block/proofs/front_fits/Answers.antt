-- `words_block::front_fits` meets its contract: the rule of the names, and once it holds that of the never lines.
use mathlib.Core.Path.{sym, ◌∙◌}
use native.Mathlib.Omega.{arith}
use Rattle.netlist.specs.StoredBlock.{nevers_at}
use Rattle.words_block.proofs.front_fits.Goals as goal

pub fit-requires-2-clause-n_le_max_inputs : goal.fit-requires-2-clause-n_le_max_inputs
unfolding nevers_at
fit-requires-2-clause-n_le_max_inputs c =
    let start = c in
    omega (arith, c.nevers_at.ensures, start.requires)

pub fit-requires-2-clause-at_le_place_room : goal.fit-requires-2-clause-at_le_place_room
unfolding nevers_at
fit-requires-2-clause-at_le_place_room c =
    let start = c in
    omega (arith, c.nevers_at.ensures, start.requires)

pub fit-requires-2-clause-l_le_max_nevers : goal.fit-requires-2-clause-l_le_max_nevers
unfolding nevers_at
fit-requires-2-clause-l_le_max_nevers c =
    let start = c in
    omega (arith, c.nevers_at.ensures, start.requires)

pub returns : goal.returns
returns c =
    let after-fit = c in
    rw (← c.nevers_at.ensures, sym after-fit.fit.ensures ∙ c.if-not-fit.false)
    c.fit-2.ensures
