-- `graph_scc::layering::Layering::has_low_link` meets its contract: the gate that its slot reads stands nearer in its layer.
use mathlib.Core.Path.{sym, ◌∙◌}
use borrow.Author.Tests.{ltb-true}
use Rattle.graph_scc.proofs.Slots.{slot_read}
use Rattle.graph_scc.proofs.layering.Layering.has_low_link.Goals as goal

pub returns-then-last_of : goal.returns-then-last_of
returns-then-last_of c =
    λ e. let steps = c.requires.0.steps in
    let j = c.in-Some.j in
    let from = (steps c.args.i c.requires.1).listed.inside in
    record {
      to = _;
      below = (steps j c.in-Some.ensures.0).listed.below;
      same = sym c.last_of.ensures.0 ∙ c.if-last_of.true ∙ c.last_of-2.ensures.0;
      nearer =
          rw (← c.distance_at.ensures, ← c.distance_at-then-last_of.ensures)
          (ltb-true c.distance_at.result c.distance_at-then-last_of.result e);
      reading =
          rw (steps j c.in-Some.ensures.0).listed.stands
          (slot_read c.requires.0.legal _ from _ j c.if-slot-ge-SLOTS.false c.in-Some.ensures.1);
    }
