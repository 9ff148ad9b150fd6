-- `unroll_emission::entry::Mapping::mapped` meets its contract, by the gate that the word names.
use mathlib.Core.Path.{refl, sym}
use native.Mathlib.Omega.{arith}
use Rattle.unroll_emission.proofs.Words.{mapped-named, mapped-none}
use Rattle.unroll_emission.proofs.entry.Mapping.mapped.Goals as goal

pub returns-in-Some : goal.returns-in-Some
returns-in-Some c =
    let m = c.args.self.now in
    let named = c.in-Some.ensures in
    sym (mapped-named m.nodes m.table.now c.args.w named.1 (omega (arith, named)))

pub returns-in-None : goal.returns-in-None
returns-in-None c =
    let m = c.args.self.now in
    sym (mapped-none m.nodes m.table.now c.args.w refl (omega (arith, c.in-None.ensures)))
