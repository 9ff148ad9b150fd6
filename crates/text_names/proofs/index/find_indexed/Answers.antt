-- `text_names::index::find_indexed` meets its contract: at the end of its walk stands the entry of the name, or none.
use mathlib.Core.Logic.{∥∥₁_elim, ∥∥₁_map}
use lib.ListN.{length}
use Rattle.std.proofs.Math.Bridge.{le_prop}
use Rattle.std.proofs.lemmas.Grind.{not_there}
use Rattle.text_names.proofs.Indexing.{held_of, ends-here, entry-told}
use Rattle.text_names.proofs.index.find_indexed.Goals as goal

pub walk-requires : goal.walk-requires
walk-requires c = λ j. ∥∥₁_elim c.requires le_prop (λ h. h.entries j)

pub returns-in_err-at : goal.returns-in_err-at
returns-in_err-at c = absurd (not_there c.requires (λ h. ends-here _ _ _ _ h c.in_err-at.ensures))

pub returns : goal.returns
returns c =
    let a = c.args in
    entry-told a.names.now a.index.now (length a.names.now) a.name c.in_ok-at.at (∥∥₁_map c.requires held_of)
    c.in_ok-at.ensures.1 c.checked_sub.result c.checked_sub.ensures
