-- `graph_simulation::changes::Found::next_round` meets its contract: `values` gets what was found, and then the readers of
-- what changed are evaluated.
use Rattle.graph_simulation.proofs.Updates.{copy-ready, copied-ready, next-ready, next-pending, round-next}
use Rattle.graph_simulation.proofs.changes.Found.next_round.Goals as goal

pub update_changed-requires : goal.update_changed-requires
update_changed-requires c =
    let g = c.args.block.graph.legal in
    let r = c.requires in
    let k = c.copy_changed.ensures in record {
      update_ready = (next-ready g r k, r.ordered);
      copy_ready = copied-ready g r k;
      pending = next-pending g r k;
    }

pub copy_changed-requires : goal.copy_changed-requires
copy_changed-requires c = search copy-ready

pub returns : goal.returns
returns c = search round-next
