-- `everywhere::are_all_settled` meets its contract: the bytes in front are the settings'.
use mathlib.Core.Path.{ap, ◌∙◌}
use Prim.Native.Nat.{ℕ, ◌^◌}
use lib.Dec.{eqb}
use lib.ListN.{take}
use borrow.Author.Rules.{rules}
use borrow.Author.Tests.{tests}
use Rattle.std.proofs.lemmas.Iterator.{YieldsList-from_slice}
use Rattle.std.proofs.lemmas.Iterator.Search.{all_from_yields_List}
use Rattle.op_cover.proofs.Bounds.{shifted}
use Rattle.op_cover.proofs.Flags.{settled-front}
use Rattle.op_cover.proofs.everywhere.are_all_settled.Goals as goal

pub returns : goal.returns
returns c =
    let settings = c.args.settings.now in
    let settled = settings.settled.now in
    let n = settings.inputs in
    let e = shifted settings.few in
    let front = c.iter.ensures.rest ∙ ap (λ (k : ℕ). take k settled) e in
    all_from_yields_List (λ byte. eqb byte 1) _ _ _ c.all.ensures.ran
    (YieldsList-from_slice (take (2 ^ n) settled) front) (λ x b q k. search (rules, tests))
    ∙ settled-front settled (2 ^ n) settings.room
