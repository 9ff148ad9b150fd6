-- `op_groups::numbering::number_groups` meets its contract: the leaders, the lists of each group's gates and the fan-out
-- are made from the graph.
use mathlib.Core.Path.{refl}
use Rattle.op_groups.proofs.Sets.{zeros}
use Rattle.op_groups.proofs.Turns.{nexts-are}
use Rattle.op_groups.specs.Numbering.{NumberReady}
use Rattle.op_groups.proofs.numbering.number_groups.Goals.{After-link}
use Rattle.op_groups.proofs.numbering.number_groups.Goals as goal

prepared : (c : After-link) → NumberReady c.args.graph.gates c.args.graph.words.now c.lead.new.leaders
prepared c = record { legal = c.args.graph.legal; leads = c.lead.ensures }

pub link_slots-requires : goal.link_slots-requires
link_slots-requires c = record { long = refl; zeros = zeros 5120 }

pub number_from_none-requires : goal.number_from_none-requires
number_from_none-requires c =
    let r = prepared (goal.at.number_from_none-requires c).After-link in
    record { prepared = r; nexts_are = nexts-are r c.link.ensures; linked = c.link_slots.ensures }
