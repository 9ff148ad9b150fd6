-- `text_names::search::repeats` meets its contract.
use mathlib.Core.Path.{◌∙◌}
use lib.ListN.{get_or}
use lib.Seq.{length-take-le}
use native.Mathlib.Omega.{arith}
use Rattle.prelude.proofs.Below.{below-some}
use Rattle.text_names.specs.Search.{repeats_at}
use Rattle.text_names.proofs.Lookup.{index-cut}
use Rattle.text_names.proofs.search.repeats.Goals as goal

pub returns : goal.returns
unfolding repeats_at
returns c =
    let a = c.args in
    let x = get_or a.names.now a.i 0 in
    let cut = index-cut a.names.now a.i x (omega arith) in
    let size = length-take-le a.i a.names.now (omega arith) in
    c.is_some.ensures ∙ rw (cut, size) at (below-some _ _ c.find.result c.find.ensures)
