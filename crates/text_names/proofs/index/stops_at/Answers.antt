-- `text_names::index::stops_at` meets its contract.
use Rattle.text_names.specs.Index.{stops_at}
use Rattle.text_names.proofs.Indexing.{stops-entry}
use Rattle.text_names.proofs.index.stops_at.Goals as goal

pub returns-then-entry-eq0 : goal.returns-then-entry-eq0
unfolding stops_at
returns-then-entry-eq0 c = rw c.if-entry-eq0.true

pub returns-else-entry-eq0 : goal.returns-else-entry-eq0
returns-else-entry-eq0 c =
    let a = c.args in stops-entry a.names.now a.name a.entry c.if-entry-eq0.false
