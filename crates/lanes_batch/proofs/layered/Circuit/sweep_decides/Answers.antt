-- `lanes_batch::layered::Circuit::sweep_decides` meets its contract: a sweep that changes nothing, or that defines a lane more.
use mathlib.Core.Bool.{true≢false}
use Rattle.lanes_batch.specs.Layered.{LanesSwept, part, room_in}
use Rattle.lanes_batch.proofs.Layering.{part-nodes, part-swept, advanced-swept, advanced-still, advanced-decided}
use Rattle.lanes_batch.proofs.layered.Circuit.sweep_decides.Goals.{After-sweep_part}
use Rattle.lanes_batch.proofs.layered.Circuit.sweep_decides.Goals as goal

-- the sweep
made : (d : After-sweep_part) → let a = d.args in let s = a.self.now in
    LanesSwept s.graph.gates s.inputs s.graph.words.now (part a.back s.order.now a.from a.end) a.lanes.now
    d.sweep_part.new.lanes d.sweep_part.result
made d = part-swept d.args.back d.args.self.now.graph.legal d.requires.0 d.requires.1 d.sweep_part.ensures

pub returns-then-not-sweep_part : goal.returns-then-not-sweep_part
returns-then-not-sweep_part c =
    record {
      part_advanced =
          advanced-still c.args.back c.requires.0 c.requires.1
          (made (goal.at.returns-then-not-sweep_part c).After-sweep_part) c.if-not-sweep_part.true;
      lanes_bound = λ e. absurd (true≢false e);
    }

pub returns : goal.returns
unfolding room_in
returns c =
    let swept = made (goal.at.returns c).After-sweep_part in
    record {
      part_advanced =
          advanced-decided c.is_decided.result c.requires.0 (advanced-swept c.args.back c.requires.1 swept)
          c.used_lanes.ensures c.is_decided.ensures;
      lanes_bound = λ f. swept.swept.less c.if-not-sweep_part.false;
    }

pub sweep_part-requires : goal.sweep_part-requires
sweep_part-requires c = part-nodes c.args.self.now.graph.legal c.requires.0
